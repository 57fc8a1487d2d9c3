pub mod Fabrics
