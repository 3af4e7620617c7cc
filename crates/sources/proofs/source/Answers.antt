-- The ciphertext of the unit, and the start of its text.
use mathlib.Core.Path.{◌≡◌, sym, ap, subst, ◌∙◌}
use mathlib.Core.List.{List}
use Prim.Native.Nat.{ℕ, ◌+◌, ◌-◌, ◌≤◌}
use native.Mathlib.Omega.{arith}
use borrow.Author.Rules.{rules}
use lib.ListN.{length, take, drop}
use lib.Seq.{take_all}
use Rattle.fields.specs.Unit.{source_length}
use Rattle.kinds.specs.Kind.{kind_of}
use Rattle.format.specs.Sealings.{nonce_of}
use Rattle.sealing.specs.Passes.{text_of}
use Rattle.seals.specs.Seal.{unit_opened}
use Rattle.sources.proofs.Opened.{told, standing, standing_long, opened_is_text, passable, source_within, source_long, source_there}
use Rattle.sources.proofs.source.Goals as goal

pub overflow_add-end : goal.overflow_add-end
overflow_add-end c =
    let a = c.args in
    let r = a.r.now in
    let t = told r.kind r.key.now r.front.now r.under a.n a.m a.s.now c.requires.0 in
    search rules

pub slice_bounds-text_start-end-2 : goal.slice_bounds-text_start-end-2
slice_bounds-text_start-end-2 c =
    let a = c.args in
    let r = a.r.now in
    let t = told r.kind r.key.now r.front.now r.under a.n a.m a.s.now c.requires.0 in
    omega (arith, c.ciphertext_at-start.ensures.is)

pub text_start-requires : goal.text_start-requires
text_start-requires c =
    let a = c.args in
    let r = a.r.now in
    let start = c.ciphertext_at-start.result in
    let long : start + a.m - start ≡ a.m = omega arith in
    -- what is deciphered
    let part : take (start + a.m - start) (drop start a.s.now) ≡ standing r.kind r.key.now r.front.now r.under a.n a.m a.s.now c.requires.0 =
    λ i. take (long i) (drop (c.ciphertext_at-start.ensures.is i) a.s.now) in
    let key : c.block_at-k.result ≡ r.key.now = c.block_at-k.ensures ∙ take_all 16 r.key.now (omega (arith, r.under.key_long)) in
    let nonce = c.nonce-nonce.ensures ∙ ap (λ (k : ℕ). nonce_of k a.n) c.number.ensures in
    let text-is : text_of c.suite-suite.result c.block_at-k.result c.nonce-nonce.result (take (start + a.m - start) (drop start a.s.now))
    ≡ unit_opened (kind_of r.kind) r.key.now r.front.now a.n a.m a.s.now =
    (λ i. text_of (c.suite-suite.ensures i) (key i) (nonce i) (part i))
    ∙ sym (opened_is_text r.kind r.key.now r.front.now r.under a.n a.m a.s.now c.requires.0) in
    let fit = source_within r.kind r.key.now r.front.now r.under a.n a.m a.s.now c.requires.0 in
    let whole = standing_long r.kind r.key.now r.front.now r.under a.n a.m a.s.now c.requires.0 in (
      rw (nonce, part, c.suite-suite.ensures) (passable r.kind r.key.now r.front.now r.under a.n a.m a.s.now c.requires.0),
      subst (λ (l : ℕ). l ≤ length (take (start + a.m - start) (drop start a.s.now)))
          (ap (λ (t : List ℕ). 2 + source_length t) (sym text-is))
          (omega (arith, fit.0, whole, ap length part)),
      subst (λ (l : ℕ). l ≤ 4096) (ap source_length (sym text-is)) fit.1,
      c.requires.1,
    )

pub returns : goal.returns
returns c =
    let a = c.args in
    let r = a.r.now in
    let start = c.ciphertext_at-start.result in
    let long : start + a.m - start ≡ a.m = omega arith in
    -- what is deciphered
    let part : take (start + a.m - start) (drop start a.s.now) ≡ standing r.kind r.key.now r.front.now r.under a.n a.m a.s.now c.requires.0 =
    λ i. take (long i) (drop (c.ciphertext_at-start.ensures.is i) a.s.now) in
    let key : c.block_at-k.result ≡ r.key.now = c.block_at-k.ensures ∙ take_all 16 r.key.now (omega (arith, r.under.key_long)) in
    let nonce = c.nonce-nonce.ensures ∙ ap (λ (k : ℕ). nonce_of k a.n) c.number.ensures in
    let text-is : text_of c.suite-suite.result c.block_at-k.result c.nonce-nonce.result (take (start + a.m - start) (drop start a.s.now))
    ≡ unit_opened (kind_of r.kind) r.key.now r.front.now a.n a.m a.s.now =
    (λ i. text_of (c.suite-suite.ensures i) (key i) (nonce i) (part i))
    ∙ sym (opened_is_text r.kind r.key.now r.front.now r.under a.n a.m a.s.now c.requires.0) in
    let fit = source_within r.kind r.key.now r.front.now r.under a.n a.m a.s.now c.requires.0 in
    let t = unit_opened (kind_of r.kind) r.key.now r.front.now a.n a.m a.s.now in
    let left = c.text_start.new.work in
    let e = c.text_start.ensures in
    let is : c.text_start.result ≡ source_length t = e.length_is ∙ ap source_length text-is in
    record {
      source =
          ap (λ (k : ℕ). take k (drop 2 left)) is
          ∙ source_there t left (ap (λ (k : ℕ). take (2 + k) left) (sym is) ∙ e.front ∙ (λ i. take (2 + is i) (text-is i)));
      length_is = is ∙ sym (source_long r.kind r.key.now r.front.now r.under a.n a.m a.s.now c.requires.0);
      most = omega arith;
      long = e.long;
    }
