-- The range, the room, then the copy.
use Rattle.fetch.specs.Fetch.{fetched_lengths}
use mathlib.Core.Path.{◌≡◌, sym, ap, ◌∙◌}
use mathlib.Core.List.{◌++◌}
use Prim.Native.Nat.{ℕ, ◌+◌, ◌-◌, ◌*◌, ◌≤◌}
use lib.ListN.{length, drop}
use Rattle.fields.specs.Unit.{source_length, text_in_range}
use Rattle.seals.proofs.Verified.{stated}
use Rattle.bits.proofs.Lists.{part_rest}
use Rattle.fetch.proofs.Handed.{hands_refused, not_text, no_room, text_hands}
use mathlib.Core.Bool.{Bool}
use mathlib.Core.List.{List}
use lib.ListN.{get_or}
use Rattle.fetch.proofs.unit.hand_out.Goals as goal

-- what was tested
tested : (t : List ℕ) (b : Bool) → 2 ≤ length t → b ≡ text_in_range (length t) (get_or t 0 0 * 256 + get_or t 1 0)
    → text_in_range (length t) (source_length t) ≡ b
tested t b h e = ap (text_in_range (length t)) (sym (stated t h)) ∙ sym e

pub returns-then-not-is_text : goal.returns-then-not-is_text
returns-then-not-is_text c =
    let t = c.args.text.now in
    hands_refused t c.args.out.now
    (not_text t c.args.out.now (tested t c.is_text.result c.requires c.is_text.ensures ∙ c.if-not-is_text.true))

pub returns-then-out-m : goal.returns-then-out-m
returns-then-out-m c =
    let t = c.args.text.now in
    hands_refused t c.args.out.now
    (no_room t c.args.out.now (tested t c.is_text.result c.requires c.is_text.ensures ∙ c.if-not-is_text.false) c.if-out-m.true)

pub returns : goal.returns
returns c =
    let t = c.args.text.now in
    let out = c.args.out.now in
    let h = text_hands t out (tested t c.is_text.result c.requires c.is_text.ensures ∙ c.if-not-is_text.false) c.if-out-m.false in (
      ap (λ s. fetched_lengths s (length t - 2 - s)) (c.pair-s.ensures ∙ stated t c.requires) ∙ h.0,
      c.copy.ensures ∙ ap (λ r. r ++ drop (length r) out) (part_rest 2 t) ∙ h.1,
    )
