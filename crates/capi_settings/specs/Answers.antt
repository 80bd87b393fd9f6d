-- What the numbers of the call's answer stand for. Assumes nothing: these are definitions.
use Rattle.settings_model.specs.Settings as model
use Rattle.capi_settings.specs.declared.Settings.{Settings}

abbrev pub settings_as : Settings → model.Settings
settings_as r = record { answer = r.refusal; subjects = r.subjects; listed = r.listed; hidden = r.hidden }
