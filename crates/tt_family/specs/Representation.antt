-- How the code keeps what the definitions speak of: private contracts cite these, and no public one
-- does.
pub mod Cursors
pub mod FileOrder
pub mod SlotLists
pub mod StateSlots
