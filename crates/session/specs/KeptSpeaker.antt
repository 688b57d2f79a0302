-- What a session keeps between two lines, as the definitions of sessions see it.
use Rattle.command_types.specs.Session.{Speaker as SpeakerData}
use Rattle.session.specs.declared.speaker.Speaker.{Speaker}
use Rattle.session.specs.KeptDraft.{draft_of}

-- a speaker as the definitions of sessions see it
abbrev pub speaker_of : Speaker → SpeakerData
speaker_of speaker = record { party = speaker.party; draft = draft_of speaker.draft }
