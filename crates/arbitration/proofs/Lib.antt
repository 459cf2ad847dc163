-- One unit in one slot, the start slot, all units slot by slot, the winner; then the claim, and an example of it.
pub mod Slot
pub mod Start
pub mod Remaining
pub mod Winner
pub mod OneRule
pub mod Example
