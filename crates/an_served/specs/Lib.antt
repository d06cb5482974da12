pub mod Manifest
pub mod ManifestParts
pub mod Note
pub mod NoteParts
