pub mod Bodies
pub mod Canvas
pub mod Container
pub mod ContainerText
pub mod Cost
