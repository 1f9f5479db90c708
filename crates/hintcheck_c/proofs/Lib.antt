pub mod HintedGlyphs
pub mod HintingAnswers
pub mod SafeGlyphs
pub mod Chains
pub mod Retaining
pub mod ComponentTests
