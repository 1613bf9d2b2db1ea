pub mod Direct
pub mod PutsPart
pub mod Results
pub mod Sayable
pub mod ShortNames
