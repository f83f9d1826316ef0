pub mod Charges
pub mod ChargeWeighingLemmas
