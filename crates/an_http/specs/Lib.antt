pub mod Method
pub mod Head
pub mod Fields
pub mod Status
pub mod Requests
pub mod Next
pub mod Replies
pub mod Errors
