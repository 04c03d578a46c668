-- the hypotheses of the theorems can be met
pub mod Witness
