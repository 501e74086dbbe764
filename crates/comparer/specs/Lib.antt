pub mod Comparer
