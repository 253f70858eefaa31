pub mod Churn
pub mod Ready
