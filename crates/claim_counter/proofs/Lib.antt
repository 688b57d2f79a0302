pub mod ClaimSteps
