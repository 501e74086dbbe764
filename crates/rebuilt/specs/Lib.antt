pub mod Rebuilt
