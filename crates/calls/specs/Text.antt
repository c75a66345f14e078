-- What is printed of a call.
use Rattle.std.specs.Prelude.{List, ℕ, codes}
use Rattle.calls.specs.declared.Call.{Call, TheVariants.{Start, Open, Step, Close, View, NoCall}}

abbrev pub call_text : Call → List ℕ
call_text (Start mode max) = codes "start"
call_text Open = codes "open"
call_text Step = codes "step"
call_text Close = codes "close"
call_text (View side start len) = codes "view"
call_text NoCall = codes "no call"
