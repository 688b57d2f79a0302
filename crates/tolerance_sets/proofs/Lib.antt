pub mod Walk
pub mod PairRows
pub mod PairLimits
pub mod BoundOwners
pub mod SettingOrder
mod PutOver
pub mod NoCeiling
pub mod NoSetting
pub mod Passed
pub mod OpenPairs
pub mod ModeLaws
mod OpenRows
pub mod RisingFacts
pub mod OrderedFacts
