use Rattle.period_roll.proofs.SettingLaws.{settings_stay}
use Rattle.period_roll.proofs.laws.settings_stay.Goals as goal

pub returns : goal.returns
returns c = settings_stay
