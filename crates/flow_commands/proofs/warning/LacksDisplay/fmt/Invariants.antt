use Rattle.std.proofs.Common.{◌≡◌, take}
use Rattle.std.specs.Fmt.{HasWritten, IsPlainFormatter}
use denote.Text.{Utf8}
use denote.Shadow.{shadow}
use Rattle.flow_commands.proofs.WarningParts.{parts_text, separator}
use Rattle.flow_commands.proofs.warning.LacksDisplay.fmt.Given as goal

abbrev pub invariant-parts : goal.invariant-parts
invariant-parts g l =
    shadow (Utf8 l.before) × (l.before ≡ separator (take l.part-index l.part-items))
    × (IsPlainFormatter l.initial.f
    → HasWritten g.W.Write.write_str_gives l.initial.f (parts_text (take l.part-index l.part-items)) l.f)
