pub mod AreaFacts
pub mod Controls
pub mod Keepings
pub mod Plains
pub mod RefinedFacts
pub mod Results
pub mod Steppings
pub mod Works
