pub mod FromReading
pub mod BaseKinds
pub mod SettingReading
pub mod TradeReading
pub mod BaseReading
pub mod BaseForms
