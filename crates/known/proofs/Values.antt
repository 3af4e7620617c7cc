-- The known values hold.
use mathlib.Core.Path.{◌≡◌, refl, sym, ap}
use mathlib.Core.List.{[], ◌∷◌}
use Prim.Native.Nat.{ℕ}
use native.Mathlib.Omega.{arith}
use lib.ListN.{length, drop}
use Rattle.sbox.specs.Sbox
use Rattle.lbox.specs.Lbox
use Rattle.bits.specs.Bytes.{big_endian}
use Rattle.bits.proofs.Bytes.{bytes_nil, bytes_cons, bytes_zeros}
use Rattle.calls.specs.Calls.{calls, block_calls}
use Rattle.calls.specs.Tweak.{tweak}
use Rattle.rounds.specs.Tweakey.{φ}
use Rattle.fields.specs.Each.{EachFrom, none_from, more_from}
use Rattle.fields.specs.Field.{field, field_head}
use Rattle.kinds.specs.declared.Kind.{Kind as BookKind}
use Rattle.kinds.specs.declared.Kind.TheVariants.{Tag10}
use Rattle.kinds.specs.Kind.{kind_of, newest}
use Rattle.kinds.proofs.Formed.{two_letters}
use Rattle.fields.specs.Languages.{letters, pair_allowed}
use Rattle.fields.specs.Unit.{Allowed, unit_text, details_of}
use Rattle.format.specs.Layout.{book_bytes, units_bytes, unit_bytes, book_length}
use Rattle.format.specs.Sealings.{opening_fields, unit_header, close_header, unit_sealing, close_sealing, unit_sealings, sealing_calls, cipher_calls}
use Rattle.format.proofs.Lengths.{length_book_bytes}
use Rattle.checker.specs.Exact.{book_sealings}
use Rattle.known.specs.Known.{scream10, key8, number8, units8, book8, known, KnownHold}

units_allowed : (k : BookKind) → EachFrom (Allowed (kind_of k)) 0 units8
unfolding letters pair_allowed
units_allowed k =
    more_from
    (record {
      given =
          record {
            from_long = sym (two_letters k);
            to_long = sym (two_letters k);
            from_bytes = bytes_cons 0x65 (0x6E ∷ []) (omega arith) (bytes_cons 0x6E [] (omega arith) bytes_nil);
            to_bytes = bytes_cons 0x64 (0x65 ∷ []) (omega arith) (bytes_cons 0x65 [] (omega arith) bytes_nil);
            source_bytes = bytes_zeros 5;
            target_bytes = bytes_zeros 6;
          };
      languages = refl;
      range = refl;
    })
    none_from

-- by the law: to count the sealed bytes would be to seal
book_length_lem : (k : BookKind) → length (book8 (kind_of k)) ≡ book_length (kind_of k) units8
book_length_lem k = length_book_bytes (kind_of k) scream10 key8 number8 units8 (units_allowed k)

pub known_hold : KnownHold known
unfolding known Sbox.scream Sbox.iscream Lbox.iscream Lbox.times Lbox.dot φ tweak big_endian calls block_calls field field_head opening_fields unit_header
    close_header unit_text details_of book_bytes units_bytes unit_bytes unit_sealing close_sealing unit_sealings sealing_calls cipher_calls book_sealings book_length
known_hold =
    let wide : KnownHold (drop 21 known) = (refl, (refl, (ap (λ (n : ℕ). n ∷ []) (book_length_lem newest), (refl, (refl, (refl, tt)))))) in
    let old : KnownHold (drop 17 known) = (refl, (refl, (ap (λ (n : ℕ). n ∷ []) (book_length_lem Tag10), (refl, wide)))) in
    (refl, (refl, (refl, (refl, (refl, (refl, (refl, (refl, (refl, (refl, (refl, (refl, (refl, (refl, (refl, (refl, (refl, old)))))))))))))))))
