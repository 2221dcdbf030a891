mod Having
mod Prefixes
mod Wording
mod Bounding
mod Arriving
mod Making
mod Examples
