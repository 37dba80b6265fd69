-- What VMs, owners and sharing say by parts; what a passed answer tells, and what the table of pairs is asked.
pub mod Parts
pub mod ReadyLaws
pub mod RoomLaws
