-- The block-by-block form of Pieces is the definition of Sealing.
use mathlib.Core.Path.{◌≡◌, refl, sym, ap, ◌∙◌}
use mathlib.Core.Bool.{Bool, true, false, cond}
use mathlib.Core.List.{List, [], ◌∷◌, ◌++◌, append_assoc, append-nil}
use Prim.Native.Nat.{ℕ, zero, suc, ◌+◌, ◌≤◌, ◌<◌}
use native.Mathlib.Nat.{zero-add, le_of_eq, ne_of_gt}
use native.Mathlib.Omega.{arith}
use lib.ListN.{length, replicate, length-append, length-take}
use borrow.Author.Tests.{ltb-true, eq-eqb, ne_eqb}
use Rattle.bits.specs.Bytes.{added}
use Rattle.bits.specs.Table.{tab}
use Rattle.bits.proofs.Added.{length_added, added_comm, added_assoc, added_zeros}
use Rattle.blockwise.specs.Blocks.{block}
use Rattle.blockwise.proofs.Each.{Blockwise, block_long, strung_ext}
use Rattle.calls.specs.Tweak.{text_tweak, header_tweak, special_tweak, blocks_of, inner, last_text_mark, last_header_mark, tag_mark}
use Rattle.calls.specs.Calls.{CipherCall, filled, length_block, sum_of, checksum, header_call, text_call, tag_call, block_calls, calls}
use Rattle.calls.specs.Sealing.{
  Outcome,
  run,
  is_text,
  outcome_at,
  placed,
  tag_part,
  tag_of,
  assembled,
  ahead,
  sealing,
  opened_tag,
  back,
  open_outcomes,
  opening,
  opening_tag,
}
use Rattle.calls.specs.Pieces.{piece, through, header_sum, tag_from}
use Rattle.calls.proofs.Tweaks.{length_tweak}
use Rattle.calls.proofs.Strung.{length_strung, block_short}

-- lengths

pub length_filled : (pad : ℕ) (b : List ℕ) → length (filled pad b) ≡ 16
unfolding filled
length_filled pad b = simp (length-take, length-append) (omega arith)

pub length_sum : (n : ℕ) (g : ℕ → List ℕ) → ((i : ℕ) → length (g i) ≡ 16) → length (sum_of n g) ≡ 16
unfolding sum_of
length_sum zero g h = refl
length_sum (suc n) g h =
    let l = length_sum n g h in
    length_added (sum_of n g) (g n) (omega (arith, h n)) ∙ l

pub length_checksum : (t : List ℕ) → length (checksum t) ≡ 16
unfolding checksum
length_checksum t = length_sum (blocks_of (length t)) (λ i. filled 0x00 (block t i)) (λ i. length_filled 0x00 (block t i))

-- sums

sum_front : (n : ℕ) (g : ℕ → List ℕ) → sum_of (suc n) g ≡ added (g 0) (sum_of n (λ i. g (suc i)))
unfolding sum_of
sum_front zero g = added_comm (replicate 16 0) (g 0)
sum_front (suc n) g =
    ap (λ (x : List ℕ). added x (g (suc n))) (sum_front n g) ∙ added_assoc (g 0) (sum_of n (λ i. g (suc i))) (g (suc n))

sum_zeros : (n : ℕ) → sum_of n (λ i. replicate 16 0) ≡ replicate 16 0
unfolding sum_of
sum_zeros zero = refl
sum_zeros (suc n) = ap (λ (x : List ℕ). added x (replicate 16 0)) (sum_zeros n) ∙ added_zeros (replicate 16 0) 16 (omega arith)

zeros_tag : (os : List Outcome) → added (replicate 16 0) (tag_of os) ≡ tag_of os
unfolding tag_of
zeros_tag [] = added_zeros (replicate 16 0) 16 (omega arith)
zeros_tag (o ∷ os) =
    let z : List ℕ = replicate 16 0 in
    let p : List ℕ = tag_part o.place o.block in
    sym (added_assoc z p (tag_of os)) ∙ ap (λ (x : List ℕ). added x (tag_of os)) (added_comm z p) ∙ added_assoc p z (tag_of os) ∙ ap (added p) (zeros_tag os)

-- outcomes of a list of calls given by index
module _ (f : CipherCall → List ℕ) where
  outcome-past : (i n : ℕ) (g : ℕ → CipherCall) (rest : List CipherCall) → ((j : ℕ) → is_text i (g j).place ≡ false)
      → outcome_at i (run f (tab n g ++ rest)) ≡ outcome_at i (run f rest)
  unfolding outcome_at run
  outcome-past i zero g rest h = refl
  outcome-past i (suc n) g rest h = rw (h 0) (outcome-past i n (λ j. g (suc j)) rest (λ j. h (suc j)))

  outcome-here : (i n p : ℕ) (g : ℕ → CipherCall) (rest : List CipherCall) → p < n
      → ((j : ℕ) → j < p → is_text i (g j).place ≡ false) → is_text i (g p).place ≡ true
      → outcome_at i (run f (tab n g ++ rest)) ≡ f (g p)
  unfolding outcome_at run
  outcome-here i zero p g rest l before here = absurd (omega arith)
  outcome-here i (suc n) zero g rest l before here = rw here
  outcome-here i (suc n) (suc p) g rest l before here =
      rw (before 0 (omega arith)) (outcome-here i n p (λ j. g (suc j)) rest (omega arith) (λ j m. before (suc j) (omega arith)) here)

  tag-tab : (n : ℕ) (g : ℕ → CipherCall) (rest : List CipherCall)
      → tag_of (run f (tab n g ++ rest)) ≡ added (sum_of n (λ i. tag_part (g i).place (f (g i)))) (tag_of (run f rest))
  unfolding tag_of run sum_of
  tag-tab zero g rest = sym (zeros_tag (run f rest))
  tag-tab (suc n) g rest =
      let part : ℕ → List ℕ = λ i. tag_part (g i).place (f (g i)) in
      ap (added (part 0)) (tag-tab n (λ i. g (suc i)) rest)
      ∙ sym (added_assoc (part 0) (sum_of n (λ i. part (suc i))) (tag_of (run f rest)))
      ∙ ap (λ (x : List ℕ). added x (tag_of (run f rest))) (sym (sum_front n part))

-- what the call of text block i gives, where a block that is not last goes through x
abbrev text_outcome : (x e : List ℕ → List ℕ → List ℕ) (nonce t : List ℕ) → ℕ → List ℕ
text_outcome x e nonce t i =
    cond (inner (length t) i) (x (text_tweak nonce i) (block t i)) (e (special_tweak nonce (last_text_mark (length t))) (length_block (length (block t i))))

module _ (x e : List ℕ → List ℕ → List ℕ) (t₁ t₂ b₁ b₂ : List ℕ) where
  cond-ahead : (c : Bool) → e (cond c t₁ t₂) (cond c b₁ b₂) ≡ cond c (e t₁ b₁) (e t₂ b₂)
  cond-ahead true = refl
  cond-ahead false = refl

  cond_back : (c : Bool) → cond c (x (cond c t₁ t₂) (cond c b₁ b₂)) (e (cond c t₁ t₂) (cond c b₁ b₂)) ≡ cond c (x t₁ b₁) (e t₂ b₂)
  cond_back true = refl
  cond_back false = refl

cond_added : (c : Bool) (b u v : List ℕ) → cond c (cond c u v) (added b (cond c u v)) ≡ cond c u (added b v)
cond_added true b u v = refl
cond_added false b u v = refl

module _ (e d : List ℕ → List ℕ → List ℕ) (nonce t : List ℕ) (i : ℕ) where
  ahead-text : ahead e (text_call nonce t i) ≡ text_outcome e e nonce t i
  unfolding text_call
  ahead-text =
      cond-ahead e e (text_tweak nonce i) (special_tweak nonce (last_text_mark (length t))) (block t i) (length_block (length (block t i))) (inner (length t) i)

  back-text : back e d (length t) (text_call nonce t i) ≡ text_outcome d e nonce t i
  unfolding text_call
  back-text =
      cond_back d e (text_tweak nonce i) (special_tweak nonce (last_text_mark (length t))) (block t i) (length_block (length (block t i))) (inner (length t) i)

module _ (f : CipherCall → List ℕ) (nonce h t : List ℕ) (rest : List CipherCall) where
  grouped : block_calls nonce h t ++ rest ≡ tab (blocks_of (length h)) (header_call nonce h) ++ (tab (blocks_of (length t)) (text_call nonce t) ++ rest)
  unfolding block_calls
  grouped = append_assoc (tab (blocks_of (length h)) (header_call nonce h)) (tab (blocks_of (length t)) (text_call nonce t)) rest

  outcome-text : (i : ℕ) → i < blocks_of (length t) → outcome_at i (run f (block_calls nonce h t ++ rest)) ≡ f (text_call nonce t i)
  unfolding header_call text_call
  outcome-text i l =
      ap (λ (cs : List CipherCall). outcome_at i (run f cs)) grouped
      ∙ outcome-past f i (blocks_of (length h)) (header_call nonce h) (tab (blocks_of (length t)) (text_call nonce t) ++ rest) (λ j. refl)
      ∙ outcome-here f i (blocks_of (length t)) i (text_call nonce t) rest l (λ j m. ne_eqb i j (ne_of_gt m)) (eq-eqb i i refl)

  placed_is : (x e : List ℕ → List ℕ → List ℕ) → ((i : ℕ) → f (text_call nonce t i) ≡ text_outcome x e nonce t i)
      → placed t (run f (block_calls nonce h t ++ rest)) ≡ through x e nonce (length t) 0 t
  unfolding placed through piece
  placed_is x e texts =
      strung_ext (blocks_of (length t)) (λ i. at i (outcome_at i (run f (block_calls nonce h t ++ rest))))
      (λ i. piece x e nonce (length t) (0 + i) (block t i))
      (λ i l. ap (at i) (outcome-text i l ∙ texts i) ∙ rw zero-add (same i))
    where
      at : ℕ → List ℕ → List ℕ
      at i o = cond (inner (length t) i) o (added (block t i) o)

      same : (i : ℕ) → at i (text_outcome x e nonce t i) ≡ piece x e nonce (length t) i (block t i)
      same i =
          cond_added (inner (length t) i) (block t i) (x (text_tweak nonce i) (block t i))
          (e (special_tweak nonce (last_text_mark (length t))) (length_block (length (block t i))))

  -- the text blocks add nothing to the tag
  tag_is : (e : List ℕ → List ℕ → List ℕ)
      → ((i : ℕ) → f (header_call nonce h i) ≡ e (header_call nonce h i).tweak (header_call nonce h i).block)
      → tag_of (run f (block_calls nonce h t ++ rest)) ≡ added (header_sum e nonce h) (tag_of (run f rest))
  unfolding header_call text_call header_sum
  tag_is e heads =
      ap (λ (cs : List CipherCall). tag_of (run f cs)) grouped
      ∙ tag-tab f (blocks_of (length h)) (header_call nonce h) (tab (blocks_of (length t)) (text_call nonce t) ++ rest)
      ∙ (λ j. added (sum_of (blocks_of (length h)) (λ i. heads i j)) (texts j))
    where
      texts : tag_of (run f (tab (blocks_of (length t)) (text_call nonce t) ++ rest)) ≡ tag_of (run f rest)
      texts =
          tag-tab f (blocks_of (length t)) (text_call nonce t) rest
          ∙ ap (λ (z : List ℕ). added z (tag_of (run f rest))) (sum_zeros (blocks_of (length t)))
          ∙ zeros_tag (run f rest)

module _ (e : List ℕ → List ℕ → List ℕ) (k : Blockwise e) (nonce : List ℕ) (short : length nonce ≤ 15) where
  length-special : (mark : ℕ) (b : List ℕ) → length b ≡ 16 → length (e (special_tweak nonce mark) b) ≡ 16
  length-special mark b l = k.long (special_tweak nonce mark) b (length_tweak nonce mark 0 (omega arith)) l

  -- what is added to a last block of r bytes
  pub length_pad : (m r : ℕ) → length (e (special_tweak nonce (last_text_mark m)) (length_block r)) ≡ 16
  unfolding length_block
  length_pad m r = length-special (last_text_mark m) (length_block r) refl

  pub length_header_sum : (h : List ℕ) → length (header_sum e nonce h) ≡ 16
  unfolding header_sum header_call
  length_header_sum h =
      length_sum (blocks_of (length h)) (λ i. e (header_call nonce h i).tweak (header_call nonce h i).block)
      (λ i. k.long (header_call nonce h i).tweak (header_call nonce h i).block (either i (inner (length h) i)) (length_filled 0x80 (block h i)))
    where
      either : (i : ℕ) (c : Bool) → length (cond c (header_tweak nonce i) (special_tweak nonce (last_header_mark (length h)))) ≡ 16
      either i true = length_tweak nonce 0x80 i (omega arith)
      either i false = length_tweak nonce (last_header_mark (length h)) 0 (omega arith)

  pub length_tag_from : (m : ℕ) (check sum : List ℕ) → length check ≡ 16 → length sum ≡ 16 → length (tag_from e nonce m check sum) ≡ 16
  unfolding tag_from
  length_tag_from m check sum lc ls =
      let l = length-special (tag_mark m) check lc in
      length_added (e (special_tweak nonce (tag_mark m)) check) sum (omega arith) ∙ l

-- a block that is not last is whole
pub inner_long : (s : List ℕ) (i : ℕ) → inner (length s) i ≡ true → length (block s i) ≡ 16
inner_long s i h = block_long s i (omega (arith, ltb-true (suc i) (blocks_of (length s)) h))

module _ (f e : List ℕ → List ℕ → List ℕ) (kf : Blockwise f) (k : Blockwise e) (nonce : List ℕ) (short : length nonce ≤ 15) where
  pub length_piece : (m i : ℕ) (b : List ℕ) → (inner m i ≡ true → length b ≡ 16) → length b ≤ 16 → length (piece f e nonce m i b) ≡ length b
  unfolding piece
  length_piece m i b whole h = either (inner m i) whole
    where
      pad : List ℕ
      pad = e (special_tweak nonce (last_text_mark m)) (length_block (length b))

      either : (c : Bool) → (c ≡ true → length b ≡ 16) → length (cond c (f (text_tweak nonce i) b) (added b pad)) ≡ length b
      either true w = kf.long (text_tweak nonce i) b (length_tweak nonce 0x00 i (omega arith)) (w refl) ∙ sym (w refl)
      either false w = length_added b pad (omega (arith, length_pad e k nonce short m (length b)))

  pub length_through_part : (m first : ℕ) (s : List ℕ)
      → ((i : ℕ) → i < blocks_of (length s) → inner m (first + i) ≡ true → length (block s i) ≡ 16)
      → length (through f e nonce m first s) ≡ length s
  unfolding through
  length_through_part m first s whole =
      length_strung (blocks_of (length s)) (λ i. piece f e nonce m (first + i) (block s i)) s refl
      (λ i l. length_piece m (first + i) (block s i) (whole i l) (block_short s i))

  pub length_through : (s : List ℕ) → length (through f e nonce (length s) 0 s) ≡ length s
  length_through s = length_through_part (length s) 0 s (λ i l h. inner_long s i (rw zero-add at h))

pub opening_is : (e d : List ℕ → List ℕ → List ℕ) (nonce h c : List ℕ) → opening e d nonce h c ≡ through d e nonce (length c) 0 c
unfolding opening open_outcomes
opening_is e d nonce h c =
    ap (λ (cs : List CipherCall). placed c (run (back e d (length c)) cs)) (sym (append-nil (block_calls nonce h c)))
    ∙ placed_is (back e d (length c)) nonce h c [] d e (back-text e d nonce c)

module _ (e d : List ℕ → List ℕ → List ℕ) (k : Blockwise e) (nonce : List ℕ) (short : length nonce ≤ 15) (h : List ℕ) where
  sealing-tag : (t : List ℕ) → tag_of (run (ahead e) (calls nonce h t)) ≡ tag_from e nonce (length t) (checksum t) (header_sum e nonce h)
  unfolding calls tag_of run tag_call tag_from
  sealing-tag t =
      let last : List ℕ = e (special_tweak nonce (tag_mark (length t))) (checksum t) in
      let long : length last ≡ 16 = length-special e k nonce short (tag_mark (length t)) (checksum t) (length_checksum t) in
      tag_is (ahead e) nonce h t (tag_call nonce t ∷ []) e (λ i. refl)
      ∙ ap (added (header_sum e nonce h)) (added_zeros last 16 (le_of_eq long))
      ∙ added_comm (header_sum e nonce h) last

  pub sealing_is : (t : List ℕ)
      → sealing e nonce h t ≡ through e e nonce (length t) 0 t ++ tag_from e nonce (length t) (checksum t) (header_sum e nonce h)
  unfolding sealing assembled calls
  sealing_is t = λ j. placed_is (ahead e) nonce h t (tag_call nonce t ∷ []) e e (ahead-text e d nonce t) j ++ sealing-tag t j

  pub length_sealing : (t : List ℕ) → length (sealing e nonce h t) ≡ length t + 16
  length_sealing t =
      let front = length_through e e k k nonce short t in
      let back = length_tag_from e k nonce short (length t) (checksum t) (header_sum e nonce h) (length_checksum t) (length_header_sum e k nonce short h) in
      ap length (sealing_is t) ∙ simp length-append (omega arith)

  opening-tag : (c : List ℕ) → tag_of (open_outcomes e d nonce h c) ≡ header_sum e nonce h
  unfolding open_outcomes tag_of run header_call
  opening-tag c =
      ap (λ (cs : List CipherCall). tag_of (run (back e d (length c)) cs)) (sym (append-nil (block_calls nonce h c)))
      ∙ tag_is (back e d (length c)) nonce h c [] e (λ i. refl)
      ∙ added_zeros (header_sum e nonce h) 16 (le_of_eq (length_header_sum e k nonce short h))

  pub opening_tag_is : Blockwise d → (c : List ℕ)
      → opening_tag e d nonce h c ≡ tag_from e nonce (length c) (checksum (through d e nonce (length c) 0 c)) (header_sum e nonce h)
  unfolding opening_tag opened_tag opening tag_call tag_from
  opening_tag_is kd c =
      let y = through d e nonce (length c) 0 c in
      (λ j. added (ahead e (tag_call nonce (opening_is e d nonce h c j))) (opening-tag c j))
      ∙ ap (λ (n : ℕ). added (e (special_tweak nonce (tag_mark n)) (checksum y)) (header_sum e nonce h)) (length_through d e kd k nonce short c)
