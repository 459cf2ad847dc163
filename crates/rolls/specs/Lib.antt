-- The roll and who is shown, the bytes in which a host keeps it, and what a display relies on; then rolls that are
-- computed.
pub mod Roll
pub mod Kept
pub mod Relied
pub mod Cases
