-- Opening is exact: it finds the text of every sealed string, and accepts nothing else.
use mathlib.Core.Path.{◌≡◌, refl, sym, ap, subst, ◌∙◌}
use mathlib.Core.Logic.{◌↔◌}
use mathlib.Core.Bool.{Bool, true, false, cond}
use mathlib.Core.List.{List, [], ◌∷◌, ◌++◌}
use Prim.Native.Nat.{ℕ, ◌+◌, ◌-◌, ◌*◌, ◌≤◌, ◌<◌}
use native.Mathlib.Nat.{zero-add}
use native.Mathlib.Omega.{arith}
use lib.ListN.{length, take, drop, replicate, take-append-drop}
use lib.Seq.{take_at, drop_at}
use Rattle.bits.specs.Bytes.{Bytes, added}
use Rattle.bits.proofs.Added.{length_added, added_twice, bytes_added}
use Rattle.bits.proofs.Bytes.{bytes_nil, bytes_cons, bytes_append, bytes_take, bytes_zeros}
use Rattle.state.specs.Block.{Block}
use Rattle.blockwise.specs.Blocks.{block, strung}
use Rattle.blockwise.proofs.Each.{Blockwise, block_long, block_of_strung, strung_ext}
use Rattle.calls.specs.Tweak.{tweak, text_tweak, special_tweak, blocks_of, inner, last_text_mark}
use Rattle.calls.specs.Calls.{length_block, checksum}
use Rattle.calls.specs.Sealing.{sealing, opening, opening_tag}
use Rattle.calls.specs.Pieces.{piece, through, header_sum, tag_from}
use Rattle.calls.proofs.Tweaks.{length_tweak, bytes_tweak}
use Rattle.calls.proofs.Strung.{strung_blocks, block_short, bytes_block, bytes_strung}
use Rattle.calls.proofs.ByBlocks.{length_pad, inner_long, length_piece, length_through, sealing_is, length_sealing, opening_is, opening_tag_is}

-- two functions that undo each other on blocks
pub record Inverse (e d : List ℕ → List ℕ → List ℕ) : Type 0 where
  pub ahead : (t b : List ℕ) → Block t → Block b → Block (e t b)
  pub behind : (t b : List ℕ) → Block t → Block b → Block (d t b)
  pub undo : (t b : List ℕ) → Block t → Block b → d t (e t b) ≡ b
  pub redo : (t b : List ℕ) → Block t → Block b → e t (d t b) ≡ b

tweak_block : (nonce : List ℕ) (mark v : ℕ) → length nonce ≤ 15 → Bytes nonce → Block (tweak nonce mark v)
tweak_block nonce mark v short h = record { long = length_tweak nonce mark v (omega arith); fit = (bytes_tweak nonce mark v h).fit }

length_block_block : (r : ℕ) → r ≤ 16 → Block (length_block r)
unfolding length_block
length_block_block r h =
    let all : Bytes (length_block r) = bytes_append (replicate 15 0) (8 * r ∷ []) (bytes_zeros 15) (bytes_cons (8 * r) [] (omega arith) bytes_nil) in
    record { long = refl; fit = all.fit }

-- functions that make a block of bytes of two
module _ (f e : List ℕ → List ℕ → List ℕ) (keeps-f : (t b : List ℕ) → Block t → Block b → Block (f t b))
    (keeps-e : (t b : List ℕ) → Block t → Block b → Block (e t b)) (nonce : List ℕ) (short : length nonce ≤ 15) (nonce-bytes : Bytes nonce) where
  bytes-piece : (m i : ℕ) (b : List ℕ) → Bytes b → (inner m i ≡ true → length b ≡ 16) → length b ≤ 16 → Bytes (piece f e nonce m i b)
  unfolding piece
  bytes-piece m i b h whole l = either (inner m i) whole
    where
      pad : List ℕ
      pad = e (special_tweak nonce (last_text_mark m)) (length_block (length b))

      either : (c : Bool) → (c ≡ true → length b ≡ 16) → Bytes (cond c (f (text_tweak nonce i) b) (added b pad))
      either true w =
          record { fit = (keeps-f (text_tweak nonce i) b (tweak_block nonce 0x00 i short nonce-bytes) (record { long = w refl; fit = h.fit })).fit }
      either false w =
          let p : Block pad =
          keeps-e (special_tweak nonce (last_text_mark m)) (length_block (length b)) (tweak_block nonce (last_text_mark m) 0 short nonce-bytes)
          (length_block_block (length b) l) in
          bytes_added b pad h (record { fit = p.fit })

  pub bytes_through : (s : List ℕ) → Bytes s → Bytes (through f e nonce (length s) 0 s)
  unfolding through
  bytes_through s h =
      bytes_strung (blocks_of (length s)) (λ i. piece f e nonce (length s) (0 + i) (block s i))
      (λ i l. bytes-piece (length s) (0 + i) (block s i) (bytes_block s i h) (λ t. inner_long s i (rw zero-add at t)) (block_short s i))

module _ (f g e : List ℕ → List ℕ → List ℕ) (kf : Blockwise f) (k : Blockwise e) (nonce : List ℕ) (short : length nonce ≤ 15)
    (nonce-bytes : Bytes nonce) (undo : (t b : List ℕ) → Block t → Block b → g t (f t b) ≡ b) where
  piece-undo : (m i : ℕ) (b : List ℕ) → Bytes b → (inner m i ≡ true → length b ≡ 16) → length b ≤ 16
      → piece g e nonce m i (piece f e nonce m i b) ≡ b
  unfolding piece
  piece-undo m i b h whole l = either (inner m i) whole
    where
      pad : ℕ → List ℕ
      pad r = e (special_tweak nonce (last_text_mark m)) (length_block r)

      once : List ℕ → Bool → List ℕ
      once x c = cond c (f (text_tweak nonce i) x) (added x (pad (length x)))

      either : (c : Bool) → (c ≡ true → length b ≡ 16) → cond c (g (text_tweak nonce i) (once b c)) (added (once b c) (pad (length (once b c)))) ≡ b
      either true w = undo (text_tweak nonce i) b (tweak_block nonce 0x00 i short nonce-bytes) (record { long = w refl; fit = h.fit })
      either false w =
          let covers : length b ≤ length (pad (length b)) = omega (arith, length_pad e k nonce short m (length b)) in
          ap (λ (r : ℕ). added (added b (pad (length b))) (pad r)) (length_added b (pad (length b)) covers)
          ∙ added_twice b (pad (length b)) covers

  through-undo : (s : List ℕ) → Bytes s → through g e nonce (length s) 0 (through f e nonce (length s) 0 s) ≡ s
  unfolding through
  through-undo s h =
      ap (λ (r : ℕ). strung (blocks_of r) (λ i. piece g e nonce (length s) (0 + i) (block y i))) (length_through f e kf k nonce short s)
      ∙ strung_ext n (λ i. piece g e nonce (length s) (0 + i) (block y i)) (block s) back
      ∙ strung_blocks s
    where
      n : ℕ
      n = blocks_of (length s)

      ps : ℕ → List ℕ
      ps i = piece f e nonce (length s) (0 + i) (block s i)

      y : List ℕ
      y = strung n ps

      whole : (i : ℕ) → inner (length s) (0 + i) ≡ true → length (block s i) ≡ 16
      whole i t = inner_long s i (rw zero-add at t)

      long : (i : ℕ) → length (ps i) ≡ length (block s i)
      long i = length_piece f e kf k nonce short (length s) (0 + i) (block s i) (whole i) (block_short s i)

      back : (i : ℕ) → i < n → piece g e nonce (length s) (0 + i) (block y i) ≡ block s i
      back i l =
          ap (piece g e nonce (length s) (0 + i))
          (block_of_strung n ps (λ j m. long j ∙ block_long s j (omega arith)) (λ j m. rw (long j) (block_short s j)) i l)
          ∙ piece-undo (length s) (0 + i) (block s i) (bytes_block s i h) (whole i) (block_short s i)

module _ (e d : List ℕ → List ℕ → List ℕ) (ke : Blockwise e) (kd : Blockwise d) (v : Inverse e d)
    (nonce : List ℕ) (short : length nonce ≤ 15) (nonce-bytes : Bytes nonce) where
  pub through_back : (t : List ℕ) → Bytes t → through d e nonce (length t) 0 (through e e nonce (length t) 0 t) ≡ t
  through_back = through-undo e d e ke ke nonce short nonce-bytes v.undo

  pub through_ahead : (c : List ℕ) → Bytes c → through e e nonce (length c) 0 (through d e nonce (length c) 0 c) ≡ c
  through_ahead = through-undo d e e kd ke nonce short nonce-bytes v.redo

  pub bytes_opening : (h c : List ℕ) → Bytes c → Bytes (opening e d nonce h c)
  bytes_opening h c b = rw opening_is (bytes_through d e v.behind v.ahead nonce short nonce-bytes c b)

  pub seal_opened : (h c : List ℕ) → Bytes c → sealing e nonce h (opening e d nonce h c) ≡ c ++ opening_tag e d nonce h c
  seal_opened h c b =
      let x : List ℕ = through d e nonce (length c) 0 c in
      ap (sealing e nonce h) (opening_is e d nonce h c)
      ∙ sealing_is e d ke nonce short h x
      ∙ ap (λ (m : ℕ). through e e nonce m 0 x ++ tag_from e nonce m (checksum x) (header_sum e nonce h)) (length_through d e kd ke nonce short c)
      ∙ (λ j. through_ahead c b j ++ sym (opening_tag_is e d ke nonce short h kd c) j)

  pub open_sealed : (h s t : List ℕ) → Bytes t → sealing e nonce h t ≡ s
      → (opening_tag e d nonce h (take (length s - 16) s) ≡ drop (length s - 16) s) × (opening e d nonce h (take (length s - 16) s) ≡ t)
  open_sealed h s t b r = (rw (front, back) tag_is, rw front text-is)
    where
      c : List ℕ
      c = through e e nonce (length t) 0 t

      tag : List ℕ
      tag = tag_from e nonce (length t) (checksum t) (header_sum e nonce h)

      long : length c ≡ length t
      long = length_through e e ke ke nonce short t

      parts : s ≡ c ++ tag
      parts = sym r ∙ sealing_is e d ke nonce short h t

      seam : length c ≡ length s - 16
      seam = omega (arith, long, ap length r, length_sealing e d ke nonce short h t)

      front : take (length s - 16) s ≡ c
      front = ap (take (length s - 16)) parts ∙ take_at c tag (length s - 16) seam

      back : drop (length s - 16) s ≡ tag
      back = ap (drop (length s - 16)) parts ∙ drop_at c tag (length s - 16) seam

      same : through d e nonce (length c) 0 c ≡ t
      same = ap (λ (m : ℕ). through d e nonce m 0 c) long ∙ through_back t b

      text-is : opening e d nonce h c ≡ t
      text-is = opening_is e d nonce h c ∙ same

      tag_is : opening_tag e d nonce h c ≡ tag
      tag_is =
          opening_tag_is e d ke nonce short h kd c
          ∙ (λ j. tag_from e nonce (long j) (checksum (same j)) (header_sum e nonce h))

  -- A string is accepted and opened to t exactly if it is the sealing of the bytes t.
  pub open_exact : (h s t : List ℕ) → Bytes s
      → ((opening_tag e d nonce h (take (length s - 16) s) ≡ drop (length s - 16) s) × (opening e d nonce h (take (length s - 16) s) ≡ t))
      ↔ (Bytes t × (sealing e nonce h t ≡ s))
  open_exact h s t b = (sealed, (λ (x, r). open_sealed h s t x r))
    where
      c : List ℕ
      c = take (length s - 16) s

      sealed : (opening_tag e d nonce h c ≡ drop (length s - 16) s) × (opening e d nonce h c ≡ t) → Bytes t × (sealing e nonce h t ≡ s)
      sealed (p, q) =
          let cb : Bytes c = bytes_take (length s - 16) s b in (
            subst (λ (x : List ℕ). Bytes x) q (bytes_opening h c cb),
            ap (sealing e nonce h) (sym q) ∙ seal_opened h c cb ∙ ap (λ (g : List ℕ). c ++ g) p ∙ take-append-drop (length s - 16) s,
          )

  pub sealing_one : (h t₁ t₂ : List ℕ) → Bytes t₁ → Bytes t₂ → sealing e nonce h t₁ ≡ sealing e nonce h t₂ → t₁ ≡ t₂
  sealing_one h t₁ t₂ b₁ b₂ r =
      sym (open_sealed h (sealing e nonce h t₂) t₁ b₁ r).1 ∙ (open_sealed h (sealing e nonce h t₂) t₂ b₂ refl).1
