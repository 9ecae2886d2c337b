pub mod Accepted
pub mod Accepting
pub mod Concluding
pub mod Dues
pub mod Ended
pub mod Entered
pub mod Fitted
pub mod Left
pub mod Paid
pub mod Redoing
pub mod Stepped
pub mod Trues
mod Held
