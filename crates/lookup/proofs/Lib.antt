pub mod FirstMatch
pub mod PackedMatch
pub mod FileLookup
pub mod TableLookup
