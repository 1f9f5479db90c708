pub mod AnswerFaults
pub mod Bounds
pub mod Places
pub mod ReasonNumbers
pub mod Texts
