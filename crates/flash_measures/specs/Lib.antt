pub mod HasMeasures
