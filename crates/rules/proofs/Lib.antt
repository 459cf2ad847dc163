-- What the status byte tells, then demand 3 over the definitions, demand 1 and what is said of the lock.
pub mod Answers
pub mod Looked
pub mod Calm
pub mod Strangers
pub mod Ready
pub mod Undisturbed
pub mod Status
pub mod Told
pub mod Locks
pub mod Protects
pub mod Ruled
pub mod Asked
