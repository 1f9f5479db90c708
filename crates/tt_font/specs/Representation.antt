-- How the code keeps what the definitions speak of: private contracts cite these, and no public one
-- does.
pub mod CompositeLists
pub mod FontFields
pub mod GlyphParts
pub mod GlyphTables
pub mod OutlineSizes
