pub mod Syndromes
