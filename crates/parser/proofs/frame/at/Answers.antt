-- A close or a unit, by the tag.
use mathlib.Core.Path.{sym, ◌∙◌}
use borrow.Author.Tests.{eq-eqb, ne_eqb}
use lib.ListN.{get_or}
use Rattle.kinds.specs.Kind.{kind_of}
use Rattle.parser.specs.Frame.{begins_close, frame_at}
use Rattle.parser.proofs.frame.at.Goals as goal

pub returns-then-byte_at-close_tag : goal.returns-then-byte_at-close_tag
unfolding begins_close frame_at
returns-then-byte_at-close_tag c =
    let a = c.args in
    rw (eq-eqb (get_or a.s.now 0 0) (kind_of a.kind).close_tag (sym c.byte_at.ensures ∙ c.if-byte_at-close_tag.true ∙ c.close_tag.ensures))
    c.close_at.ensures

pub returns : goal.returns
unfolding begins_close frame_at
returns c =
    let a = c.args in
    rw (ne_eqb (get_or a.s.now 0 0) (kind_of a.kind).close_tag (λ e. c.if-byte_at-close_tag.false (c.byte_at.ensures ∙ e ∙ sym c.close_tag.ensures)))
    c.unit_at.ensures
