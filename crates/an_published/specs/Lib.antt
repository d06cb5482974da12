pub mod History
pub mod Lists
pub mod Known
pub mod Rule
