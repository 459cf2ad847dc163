-- Several units on one line, and what it is for them to keep the contest's rule.
pub mod Group
