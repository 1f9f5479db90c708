pub mod Headers
pub mod Faces
pub mod FaultNumbers
pub mod FaultTexts
pub mod CollectionFaults
pub mod Laws
