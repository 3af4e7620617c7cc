-- Demand 2 holds.
use Rattle.suites.specs.Answer.{Answer}
use Rattle.std.specs.Prelude.{Ok, Err}
use mathlib.Core.Path.{◌≡◌, refl, sym, ap, ◌∙◌}
use mathlib.Core.Bool.{Bool, true, false}
use mathlib.Core.Logic.{◌⊎◌, inl, inr}
use mathlib.Core.List.{List, [], ◌∷◌, ◌++◌}
use Prim.Native.Nat.{ℕ, ◌+◌, ◌-◌, ◌≤◌, ◌<◌}
use native.Mathlib.Omega.{arith}
use lib.ListN.{length, get_or, take, drop, length-drop}
use lib.Seq.{take_at, length-take-le}
use Rattle.bits.specs.Bytes.{Bytes}
use Rattle.calls.specs.Calls.{checksum, calls}
use Rattle.calls.specs.Pieces.{through, header_sum}
use Rattle.calls.specs.Sealing.{opening_tag}
use Rattle.calls.proofs.ByBlocks.{opening_tag_is, length_tag_from, length_checksum, length_header_sum, length_sealing}
use Rattle.calls.proofs.Exact.{open_exact, open_sealed}
use Rattle.suites.specs.declared.suite.Suite.{Suite}
use Rattle.suites.specs.Told.{Told, gives, refuses, told}
use Rattle.suites.proofs.Numbers.{told_done}
use Rattle.limits.specs.Tests.{seal_tests, open_tests}
use Rattle.limits.proofs.Told.{seal_told_lem, open_told as open_told_lem}
use Rattle.limits.proofs.Passed.{Openable as Passing, seal_passed, open_passed, open_passes}
use Rattle.bits.specs.Bytes.{same_bytes}
use Rattle.text_blocks.specs.Under.{enciphers, deciphers}
use Rattle.text_blocks.proofs.Chunks.{enciphers_blockwise, deciphers_blockwise}
use Rattle.opening.specs.Demand2.{
  Context,
  image,
  seal_tells,
  seal_leaves,
  open_tells,
  open_leaves,
  seal_cause,
  open_cause,
  Sealable,
  Openable,
  Does,
  Accepts,
  Differs,
  Demand2,
}
use Rattle.bits.proofs.Same.{same_equal, same_refl}
use Rattle.opening.specs.Open.{ciphertext, opened, agrees, then_tag, open_report, open_outcome, open_answer, open_buffer, open_told}
use Rattle.sealing.specs.Seal.{sealed, seal_outcome, seal_report, seal_answer, seal_buffer, seal_told, written}
use Rattle.sealing.proofs.One.{inverse, sealed_one}
use Rattle.opening.proofs.Answers.{open_done}
use Rattle.opening.proofs.Opened.{opened_long}

-- what tests that refuse with n tell of sealing and of opening, and what is left of the output
module _ (n : ℕ) (some : 0 < n) (result out : List ℕ) where
  seal_refused : (a : Answer) (len count : ℕ) → told a ≡ refuses n → Does (seal_told (seal_report a len count)) (written a result out) (refuses n) out
  seal_refused (Ok tt) len count e = let z : 0 ≡ n = ap (λ (r : Told). r.number) e in absurd (omega arith)
  seal_refused (Err why) len count e = record { answer = e; output = refl }

  open_refused : (a : Answer) (ok : Bool) (len : ℕ) → told a ≡ refuses n
      → Does (open_told (open_report (then_tag a ok) len)) (written (then_tag a ok) result out) (refuses n) out
  open_refused (Ok tt) ok len e = let z : 0 ≡ n = ap (λ (r : Told). r.number) e in absurd (omega arith)
  open_refused (Err why) ok len e = record { answer = e; output = refl }

module _ (u : Context) (key-bytes : Bytes u.key) (nonce-bytes : Bytes u.nonce) where
  S : Suite
  S = record { cipher = u.cipher; steps = u.steps }

  tag-long : length u.nonce ≤ 15 → (x : List ℕ) → length (opening_tag (enciphers S u.key) (deciphers S u.key) u.nonce u.header x) ≡ 16
  unfolding S
  tag-long short x =
      let e = enciphers S u.key in
      let k = enciphers_blockwise S u.key in
      let y = through (deciphers S u.key) e u.nonce (length x) 0 x in
      ap length (opening_tag_is e (deciphers S u.key) k u.nonce short u.header (deciphers_blockwise S u.key) x)
      ∙ length_tag_from e k u.nonce short (length x) (checksum y) (header_sum e u.nonce u.header) (length_checksum y)
      (length_header_sum e k u.nonce short u.header)

  pub image_long : length u.nonce ≤ 15 → (t : List ℕ) → length (image u t) ≡ length t + 16
  unfolding S sealed
  image_long short t = length_sealing (enciphers S u.key) (deciphers S u.key) (enciphers_blockwise S u.key) u.nonce short u.header t

  pub image_one : length u.key ≡ 16 → length u.nonce ≤ 15 → (t₁ t₂ : List ℕ) → Bytes t₁ → Bytes t₂ → image u t₁ ≡ image u t₂ → t₁ ≡ t₂
  unfolding S
  image_one l short t₁ t₂ b₁ b₂ q = sealed_one S u.key l key-bytes u.nonce u.header short nonce-bytes t₁ t₂ b₁ b₂ q

  -- sealed bytes agree in their tag and have the text t, if and only if they are t's image: of `open` and `verify` alike
  module _ (s : List ℕ) (whole : length u.key ≡ 16) (short : length u.nonce ≤ 15) where
    pub image_agrees : (t : List ℕ) → Bytes t → image u t ≡ s
        → (agrees u.cipher u.steps u.key u.nonce u.header s ≡ true) × (opened u.cipher u.steps u.key u.nonce u.header s ≡ t)
    unfolding S sealed opened agrees
    image_agrees t bt q =
        let e = enciphers S u.key in
        let d = deciphers S u.key in
        let back = inverse S u.key whole key-bytes in
        let o =
        open_sealed e d (enciphers_blockwise S u.key) (deciphers_blockwise S u.key) back u.nonce short nonce-bytes u.header s t bt q in
        (ap (λ (l : List ℕ). same_bytes 16 l (drop (length s - 16) s)) o.0 ∙ same_refl 16 (drop (length s - 16) s), o.1)

    pub agrees_image : (t : List ℕ) → 16 ≤ length s → Bytes s → agrees u.cipher u.steps u.key u.nonce u.header s ≡ true
        → opened u.cipher u.steps u.key u.nonce u.header s ≡ t → Bytes t × (image u t ≡ s)
    unfolding S sealed opened agrees
    agrees_image t long bs a q =
        let e = enciphers S u.key in
        let d = deciphers S u.key in
        let tag : opening_tag e d u.nonce u.header (ciphertext s) ≡ drop (length s - 16) s =
        same_equal 16 (opening_tag e d u.nonce u.header (ciphertext s)) (drop (length s - 16) s) (tag-long short (ciphertext s))
        (length-drop (length s - 16) s ∙ omega arith) a in
        let back = inverse S u.key whole key-bytes in
        (open_exact e d (enciphers_blockwise S u.key) (deciphers_blockwise S u.key) back u.nonce short nonce-bytes u.header s t bs
        ).0 (tag, q)

  module _ (s out : List ℕ) (openable : Openable u s out) where
    op : open_tests u.cipher u.steps (length u.key) (length u.nonce) (length u.header) (length s) (length out) ≡ Ok tt
    op =
        told_done (open_tests u.cipher u.steps (length u.key) (length u.nonce) (length u.header) (length s) (length out))
        (ap (λ (r : Told). r.number)
        (open_told_lem u.cipher u.steps (length u.key) (length u.nonce) (length u.header) (length s) (length out))
        ∙ openable)

    A : Bool
    A = agrees u.cipher u.steps u.key u.nonce u.header s

    text : List ℕ
    text = opened u.cipher u.steps u.key u.nonce u.header s

    p : Passing u.cipher u.steps (length u.key) (length u.nonce) (length u.header) (length s) (length out)
    p = open_passed u.cipher u.steps (length u.key) (length u.nonce) (length u.header) (length s) (length out) op

    text_long : length text ≡ length s - 16
    unfolding S text
    text_long = opened_long S u.key u.nonce u.header s out p.sealed.inputs.short ∙ length-take-le (length s - 16) s (omega arith)

    -- the answer and the output, by what the comparison said
    answer : (v : Bool) → A ≡ v → open_report (then_tag (Ok tt) v) (length s - 16) ≡ open_answer u.cipher u.steps u.key u.nonce u.header s out
    unfolding S A
    answer v e = ap (λ (b : Bool). open_report (then_tag (Ok tt) b) (length s - 16)) (sym e) ∙ (open_done S u.key u.nonce u.header s out op).0

    buffer : (v : Bool) → A ≡ v → written (then_tag (Ok tt) v) text out ≡ open_buffer u.cipher u.steps u.key u.nonce u.header s out
    unfolding S A text
    buffer v e = ap (λ (b : Bool). written (then_tag (Ok tt) b) text out) (sym e) ∙ (open_done S u.key u.nonce u.header s out op).1

    accepted : (t : List ℕ) → A ≡ true → text ≡ t → Accepts u s out t
    accepted t e q =
        record {
          answer = ap open_told (sym (answer true e)) ∙ ap (λ (n : ℕ). gives (n ∷ [])) (sym text_long ∙ ap length q);
          output = sym (buffer true e) ∙ ap (λ (l : List ℕ). l ++ drop (length l) out) q;
        }

    agreed : (t : List ℕ) → Accepts u s out t → (A ≡ true) × (text ≡ t)
    agreed t h = by A refl
      where
        by : (v : Bool) → A ≡ v → (A ≡ true) × (text ≡ t)
        by true e =
            let n : length s - 16 ≡ length t = ap (λ (r : Told). get_or r.values 0 0) (ap open_told (answer true e) ∙ h.answer) in
            let both : text ++ drop (length text) out ≡ t ++ drop (length t) out = buffer true e ∙ h.output in
            let first : take (length t) (text ++ drop (length text) out) ≡ text = take_at text (drop (length text) out) (length t) (text_long ∙ n) in
            (e, sym first ∙ ap (take (length t)) both ∙ take_at t (drop (length t) out) (length t) refl)
        by false e =
            let z : ◌≡◌ {A = ℕ} 8 0 = ap (λ (r : Told). r.number) (ap open_told (answer false e) ∙ h.answer) in
            absurd (omega arith)

    answers : ((t : List ℕ) × Accepts u s out t) ⊎ Differs u s out
    answers = by A refl
      where
        by : (v : Bool) → A ≡ v → ((t : List ℕ) × Accepts u s out t) ⊎ Differs u s out
        by true e = inl (text, accepted text e refl)
        by false e = inr (record { answer = ap open_told (sym (answer false e)); output = sym (buffer false e) })

    image-accepted : (t : List ℕ) → Bytes t → image u t ≡ s → Accepts u s out t
    unfolding A text
    image-accepted t bt q = let o = image_agrees s p.sealed.inputs.key p.sealed.inputs.short t bt q in accepted t o.0 o.1

    accepted-image : (t : List ℕ) → Bytes s → Accepts u s out t → Bytes t × (image u t ≡ s)
    unfolding A text
    accepted-image t bs a = agrees_image s p.sealed.inputs.key p.sealed.inputs.short t p.sealed.long bs (agreed t a).0 (agreed t a).1

  tests : List ℕ → List ℕ → Answer
  tests t out = seal_tests u.cipher u.steps (length u.key) (length u.nonce) (length u.header) (length t) (length out)

  sealable-done : (t out : List ℕ) → Sealable u t out → seal_outcome u.cipher u.steps u.key u.nonce u.header t out ≡ Ok tt
  unfolding seal_outcome tests
  sealable-done t out sealable =
      told_done (tests t out)
      (ap (λ (r : Told). r.number)
      (seal_told_lem u.cipher u.steps (length u.key) (length u.nonce) (length u.header) (length t) (length out))
      ∙ sealable)

  -- what was sealed can be opened wherever there is room
  image-openable : (t out room : List ℕ) → Sealable u t out → length t ≤ length room → Openable u (image u t) room
  unfolding seal_outcome
  image-openable t out room sealable h =
      let done = sealable-done t out sealable in
      let q = seal_passed u.cipher u.steps (length u.key) (length u.nonce) (length u.header) (length t) (length out) done in
      let l = image_long q.inputs.short t in
      let m : length (image u t) - 16 ≡ length t = omega arith in
      let room-due = open_told_lem u.cipher u.steps (length u.key) (length u.nonce) (length u.header) (length (image u t)) (length room) in
      sym (ap (λ (r : Told). r.number) room-due)
      ∙ ap (λ (a : Answer). (told a).number)
      (open_passes u.cipher u.steps (length u.key) (length u.nonce) (length u.header) (length (image u t)) (length room)
      (record { sealed = record { inputs = q.inputs; long = omega arith; text = rw m q.text }; room = omega arith }))

  seal-short : (t out : List ℕ) → Sealable u t out → length u.nonce ≤ 15
  unfolding seal_outcome
  seal-short t out sealable =
      let done = sealable-done t out sealable in
      (seal_passed u.cipher u.steps (length u.key) (length u.nonce) (length u.header) (length t) (length out) done).inputs.short

  image-made : (t out : List ℕ) → Sealable u t out
      → Does (seal_tells u t out) (seal_leaves u t out)
      (gives ((length t + 16) ∷ length (calls u.nonce u.header t) ∷ [])) (image u t ++ drop (length t + 16) out)
  unfolding seal_answer seal_buffer
  image-made t out sealable =
      let done = sealable-done t out sealable in
      record {
        answer = ap (λ (a : Answer). seal_told (seal_report a (length t + 16) (length (calls u.nonce u.header t)))) done;
        output =
            ap (λ (a : Answer). written a (image u t) out) done
            ∙ ap (λ (n : ℕ). image u t ++ drop n out) (image_long (seal-short t out sealable) t);
      }

  seal-cause : (t out : List ℕ) (n : ℕ) → 0 < n → seal_cause u t out ≡ refuses n → Does (seal_tells u t out) (seal_leaves u t out) (refuses n) out
  unfolding seal_answer seal_buffer seal_outcome tests
  seal-cause t out n some e =
      seal_refused n some (image u t) out (tests t out) (length t + 16) (length (calls u.nonce u.header t))
      (seal_told_lem u.cipher u.steps (length u.key) (length u.nonce) (length u.header) (length t) (length out) ∙ e)

  open-cause : (s out : List ℕ) (n : ℕ) → 0 < n → open_cause u s out ≡ refuses n → Does (open_tells u s out) (open_leaves u s out) (refuses n) out
  unfolding open_answer open_buffer open_outcome
  open-cause s out n some e =
      open_refused n some (opened u.cipher u.steps u.key u.nonce u.header s) out
      (open_tests u.cipher u.steps (length u.key) (length u.nonce) (length u.header) (length s) (length out))
      (agrees u.cipher u.steps u.key u.nonce u.header s) (length s - 16)
      (open_told_lem u.cipher u.steps (length u.key) (length u.nonce) (length u.header) (length s) (length out) ∙ e)

pub demand2 : Demand2
demand2 u bk bn =
    record {
      unsealed = seal-cause u bk bn;
      unopened = open-cause u bk bn;
      made = image-made u bk bn;
      answered = answers u bk bn;
      exact = λ s out t bs op. (accepted-image u bk bn s out op t bs, λ i. image-accepted u bk bn s out op t i.0 i.1);
      one = λ s out t₁ t₂ op b₁ b₂ q₁ q₂.
          let i = (p u bk bn s out op).sealed.inputs in
          image_one u bk bn i.key i.short t₁ t₂ b₁ b₂ (q₁ ∙ sym q₂);
      back = λ t out room bt done h. image-accepted u bk bn (image u t) room (image-openable u bk bn t out room done h) t bt refl;
    }
