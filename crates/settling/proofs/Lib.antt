pub mod Order
pub mod Results
