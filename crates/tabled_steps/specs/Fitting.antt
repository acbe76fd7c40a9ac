-- Which steps keep merged cells inside the table and apart.
use Rattle.std.specs.Prelude.{◌<ℤ◌, pos}
use Rattle.tabled_steps.specs.Kinds.{Act, ChangeEach, DoBoth, Span, act_of}
use Rattle.tabled_steps.specs.declared.step.Step.{Step}

-- any act but a span of size 0 or below, and two acts of which neither is one
abbrev pub ActKeepsCellsFitting : Act → Type 0
ActKeepsCellsFitting (ChangeEach (Span _ size) _) = pos 0 <ℤ size
ActKeepsCellsFitting (DoBoth first second) = ActKeepsCellsFitting first × ActKeepsCellsFitting second
ActKeepsCellsFitting _ = Unit {0}

-- any step but a span of size 0 or below, and two steps of which neither is one
abbrev pub KeepsCellsFitting : Step → Type 0
KeepsCellsFitting step = ActKeepsCellsFitting (act_of step)
