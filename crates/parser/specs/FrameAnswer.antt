-- What a look at a place of a book answers: the frame that stands there, or the refusal.
use Rattle.std.specs.Prelude.{Result}
use Rattle.suites.specs.declared.refusal.Refusal.{Refusal}
use Rattle.parser.specs.declared.frame.Frame.{Frame}

abbrev pub FrameAnswer : Type 0
FrameAnswer = Result Frame Refusal
