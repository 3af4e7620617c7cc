-- The tag, then what is handed out.
use mathlib.Core.Path.{◌≡◌, sym, ap, subst, ◌∙◌}
use Prim.Native.Nat.{ℕ, ◌≤◌}
use native.Mathlib.Omega.{arith}
use lib.ListN.{length, take, replicate, length-replicate}
use Rattle.kinds.specs.Kind.{kind_of}
use Rattle.verifying.specs.Verify.{verify_outcome}
use Rattle.verifying.specs.Within.{within_buffer}
use Rattle.parser.proofs.Frames.{UnitTold, unit_told}
use Rattle.seals.specs.Seal.{unit_opened}
use Rattle.seals.proofs.Verified.{unit_opened_long}
use Rattle.fetch.specs.Fetch.{text_outcome}
use Rattle.fetch.proofs.Units.{unit_tag, unit_by, unit_held}
use Rattle.fetch.proofs.Handed.{hands_same, hands_refused}
use mathlib.Core.List.{List, ◌++◌}
use lib.ListN.{drop}
use Prim.Native.Nat.{◌-◌}
use Rattle.suites.specs.declared.suite.Suite.{Suite}
use Rattle.kinds.specs.declared.Kind.{Kind}
use Rattle.format.specs.Sealings.{nonce_of}
use Rattle.parser.specs.Frame.{frame_sealed}
use Rattle.opening_fields.specs.Opening.{opening_number, opening_suite}
use Rattle.seals.specs.declared.Parts.{Parts}
use Rattle.seals.specs.Parts.{Under, PartsOf}
use Rattle.seals.specs.Seal.{unit_along}
use Rattle.std.proofs.lemmas.Result.{err_from_is_err_and}
use Rattle.std.specs.Prelude.{Ok, Err}
use Rattle.fetch.proofs.unit.unit.Goals as goal

-- what is left in the working buffer begins with the unit's text
held : (k : Kind) (key o : List ℕ) (n : ℕ) (under : Under key o) (m : ℕ) (s : List ℕ) → UnitTold (kind_of k) n m s → (suite : Suite) (p : Parts) (h work : List ℕ)
    → suite ≡ opening_suite o
    → PartsOf (nonce_of (opening_number o) n) (unit_along (kind_of k) o s) (frame_sealed (kind_of k) m s) s p → h ≡ p.along
    → work ≡ within_buffer suite.cipher suite.steps key p.nonce h (take (p.end - p.start) (drop p.start s) ++ p.tag) (replicate 8208 0)
    → take m work ≡ unit_opened (kind_of k) key o n m s
held k key o n under m s told suite p h work f r a e =
    ap (take m) (e
    ∙ (λ i. within_buffer (f i).cipher (f i).steps key (r.nonce_is i) ((a ∙ r.along_is) i) (r.sealed_is i) (replicate 8208 0)))
    ∙ unit_held k key o n under m s told (replicate 8208 0)
    (subst (λ l. m ≤ l) (sym (length-replicate {A = ℕ} 8208 0)) (omega (arith, told.most)))

pub slice_bounds-text-end : goal.slice_bounds-text-end
slice_bounds-text-end c =
    let told = unit_told (kind_of c.args.r.now.kind) c.args.n c.args.m c.args.s.now c.requires in
    omega (arith, told.most)

pub slice_bounds-hand_out-end : goal.slice_bounds-hand_out-end
slice_bounds-hand_out-end c =
    let a = c.args in
    let r = a.r.now in
    let told = unit_told (kind_of r.kind) a.n a.m a.s.now c.requires in
    sym (ap length (held r.kind r.key.now r.front.now a.n r.under a.m a.s.now told c.suite-suite.result c.unit_parts-p.result
    c.as_slice.result.now c.open_within-answer.new.work c.suite-suite.ensures c.unit_parts-p.ensures c.as_slice.ensures c.open_within-answer.ensures.1)
    ∙ unit_opened_long r.kind r.key.now r.front.now a.n r.under a.m a.s.now told)

pub hand_out-requires : goal.hand_out-requires
hand_out-requires c =
    let a = c.args in
    let r = a.r.now in
    let told = unit_told (kind_of r.kind) a.n a.m a.s.now c.requires in
    let long = ap length (held r.kind r.key.now r.front.now a.n r.under a.m a.s.now told c.suite-suite.result c.unit_parts-p.result
    c.as_slice.result.now c.open_within-answer.new.work c.suite-suite.ensures c.unit_parts-p.ensures c.as_slice.ensures c.open_within-answer.ensures.1)
    ∙ unit_opened_long r.kind r.key.now r.front.now a.n r.under a.m a.s.now told in
    omega (arith, long, told.least)

-- what opening in the working buffer answers
answered : (k : Kind) (key o : List ℕ) (n : ℕ) (under : Under key o) (m : ℕ) (s : List ℕ) (told : UnitTold (kind_of k) n m s) (suite : Suite) (p : Parts)
    (h : List ℕ) → suite ≡ opening_suite o
    → PartsOf (nonce_of (opening_number o) n) (unit_along (kind_of k) o s) (frame_sealed (kind_of k) m s) s p → h ≡ p.along
    → verify_outcome suite.cipher suite.steps key p.nonce h (take (p.end - p.start) (drop p.start s) ++ p.tag)
    ≡ unit_tag k key o n under m s told
answered k key o n under m s told suite p h f r a = λ i. verify_outcome (f i).cipher (f i).steps key (r.nonce_is i) ((a ∙ r.along_is) i) (r.sealed_is i)

pub returns-in_err-answer : goal.returns-in_err-answer
returns-in_err-answer c =
    let a = c.args in
    let r = a.r.now in
    let told = unit_told (kind_of r.kind) a.n a.m a.s.now c.requires in
    let tag = sym c.in_err-answer.was ∙ c.open_within-answer.ensures.0
    ∙ answered r.kind r.key.now r.front.now a.n r.under a.m a.s.now told c.suite-suite.result c.unit_parts-p.result c.as_slice.result.now c.suite-suite.ensures
    c.unit_parts-p.ensures c.as_slice.ensures in
    let p = err_from_is_err_and c.from_residual.result c.from_residual.ensures.1 in
    rw (p.1, p.2)
    (hands_refused (unit_opened (kind_of r.kind) r.key.now r.front.now a.n a.m a.s.now) a.out.now
    (sym (unit_by r.kind r.key.now r.front.now a.n r.under a.m a.s.now told (Err c.in_err-answer.field-0.0) (length a.out.now) (sym tag))))

pub returns : goal.returns
returns c =
    let a = c.args in
    let r = a.r.now in
    let told = unit_told (kind_of r.kind) a.n a.m a.s.now c.requires in
    let parts = c.unit_parts-p.ensures in
    let f = c.suite-suite.ensures in
    let tag = sym c.in_ok-answer.was ∙ c.open_within-answer.ensures.0
    ∙ answered r.kind r.key.now r.front.now a.n r.under a.m a.s.now told c.suite-suite.result c.unit_parts-p.result c.as_slice.result.now f parts c.as_slice.ensures in
    let text = held r.kind r.key.now r.front.now a.n r.under a.m a.s.now told c.suite-suite.result c.unit_parts-p.result
    c.as_slice.result.now c.open_within-answer.new.work f parts c.as_slice.ensures c.open_within-answer.ensures.1 in
    hands_same a.out.now
    (ap (λ x. text_outcome x (length a.out.now)) text
    ∙ unit_by r.kind r.key.now r.front.now a.n r.under a.m a.s.now told (Ok tt) (length a.out.now) (sym tag))
    text
    c.hand_out.ensures
