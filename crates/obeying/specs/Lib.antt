pub mod Obey
