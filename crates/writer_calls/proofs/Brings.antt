-- What an accepted call does, whichever it is: the bytes of its units, then those of a close, come to stand at the writer's place. A
-- refused call changes nothing.
use Rattle.std.specs.Prelude.{Ok, Err}
use mathlib.Core.Path.{◌≡◌, sym, ap, ◌∙◌}
use mathlib.Core.Bool.{false, ◌||◌, or-true, or-false, cond}
use mathlib.Core.List.{List, [], ◌∷◌, ◌++◌, append-nil}
use Prim.Native.Nat.{ℕ, ◌+◌, ◌≤◌}
use native.Mathlib.Nat.{add-zero}
use native.Mathlib.Omega.{arith}
use lib.ListN.{length}
use Rattle.suites.specs.declared.refusal.Refusal.{Refusal}
use Rattle.fields.specs.Each.{EachFrom, none_from, more_from}
use Rattle.fields.specs.Kind.{Kind}
use Rattle.fields.specs.Unit.{BookUnit, Given, Allowed}
use Rattle.fields.proofs.Details.{length_details_of}
use Rattle.kinds.specs.Lengths.{unit_length, close_length}
use Rattle.format.specs.Layout.{unit_bytes, close_bytes, units_bytes}
use Rattle.format.specs.Sealings.{Sealing, unit_sealing, close_sealing, unit_sealings, sealing_calls, call_total}
use Rattle.format.proofs.Lengths.{length_unit_bytes, length_close_bytes, length_sealing_calls}
use Rattle.writer_state.specs.declared.Writer.{Writer}
use Rattle.writer_state.specs.Tests.{add_outcome}
use Rattle.writer_calls.specs.Writer.{put_at}
use Rattle.writer_calls.specs.History.{Call, add, close, Callable, adds, closes, State, outcome, after_call, units_of, is_close, sealings_of}
use Rattle.writer_calls.proofs.Handed.{add_handed, close_handed}
use Rattle.writer_state.proofs.Passed.{add_passed, close_passed}

-- the bytes of a call's units, numbered from the writer's count on, then those of a close
abbrev pub bytes_of : Kind → Call → Writer → List ℕ
bytes_of kind c w =
    units_bytes kind w.suite w.key w.number w.count (units_of c)
    ++ cond (is_close c) (close_bytes kind w.suite w.key w.number (w.count + length (units_of c))) []

-- the writer moved on by these, and the bytes at its place
abbrev pub brought : Kind → Call → State → State
brought kind c e =
    let w = e.writer in
    record {
      writer =
          record {
            suite = w.suite;
            key = w.key;
            number = w.number;
            place = w.place + length (bytes_of kind c w);
            count = w.count + length (units_of c);
            total = w.total + call_total (sealings_of kind c w);
            closed = w.closed || is_close c;
          };
      buffer = put_at w.place (bytes_of kind c w) e.buffer;
    }

-- what is true of an accepted call: all that the writer's half of demand 3 asks of it
pub record Brings (kind : Kind) (c : Call) (e : State) : Type 0 where
  pub leaves : after_call kind c e ≡ brought kind c e
  pub unclosed : e.writer.closed ≡ false
  pub enough : e.writer.place + length (bytes_of kind c e.writer) ≤ length e.buffer
  -- the units are allowed at their numbers, and not too many
  pub allowed : EachFrom (Allowed kind) e.writer.count (units_of c)
  pub few : e.writer.count + length (units_of c) ≤ kind.unit_limit

-- the total of one sealing
one_total : (s : Sealing) → length (sealing_calls s) ≡ call_total (s ∷ [])
unfolding call_total
one_total s = length_sealing_calls s ∙ omega arith

module _ (kind : Kind) (w : Writer) where
  -- an add writes its unit
  module _ (u : BookUnit) where
    add-bytes : unit_bytes kind w.suite w.key w.number w.count u ≡ bytes_of kind (add u) w
    unfolding units_bytes
    add-bytes = simp append-nil

    pub add_long : Given kind u → unit_length kind (length u.source) (length u.target) ≡ length (bytes_of kind (add u) w)
    add_long g = sym (length_unit_bytes kind w.suite w.key w.number w.count u (length_details_of kind u g)) ∙ ap length add-bytes

    pub add_total : length (sealing_calls (unit_sealing kind w.suite w.number w.count u)) ≡ call_total (sealings_of kind (add u) w)
    unfolding unit_sealings
    add_total = one_total (unit_sealing kind w.suite w.number w.count u)

  -- a close writes the close
  close-bytes : close_bytes kind w.suite w.key w.number w.count ≡ bytes_of kind close w
  unfolding units_bytes
  close-bytes = rw add-zero

  close-long : close_length kind ≡ length (bytes_of kind close w)
  close-long = sym (length_close_bytes kind w.suite w.key w.number w.count) ∙ ap length close-bytes

  close_total : length (sealing_calls (close_sealing kind w.suite w.number w.count)) ≡ call_total (sealings_of kind close w)
  unfolding unit_sealings
  close_total =
      one_total (close_sealing kind w.suite w.number w.count)
      ∙ ap (λ (n : ℕ). call_total (close_sealing kind w.suite w.number n ∷ [])) (sym (add-zero w.count))

module _ (kind : Kind) (e : State) where
  abbrev w : Writer
  w = e.writer

  add-brings : (u : BookUnit) → Given kind u → outcome kind (add u) e ≡ Ok tt → Brings kind (add u) e
  unfolding add_outcome
  add-brings u g done =
      let p = add_passed kind w u.from u.to (length u.source) (length u.target) (length e.buffer) done in
      let h = add_handed kind w u e.buffer done in
      record {
        leaves =
            sym (λ j. record { writer = h.0 j; buffer = h.1 j })
            ∙ (λ j. record {
              writer =
                  record {
                    suite = w.suite;
                    key = w.key;
                    number = w.number;
                    place = w.place + add_long kind w u g j;
                    count = w.count + 1;
                    total = w.total + add_total kind w u j;
                    closed = sym (or-false w.closed) j;
                  };
              buffer = put_at w.place (add-bytes kind w u j) e.buffer;
            });
        unclosed = p.unclosed;
        enough = omega (arith, p.enough, add_long kind w u g);
        allowed = more_from (record { given = g; languages = p.languages; range = p.range }) none_from;
        few = omega (arith, p.few);
      }

  close-brings : outcome kind close e ≡ Ok tt → Brings kind close e
  close-brings done =
      let p = close_passed kind w (length e.buffer) done in
      let h = close_handed kind w e.buffer done in
      record {
        leaves =
            sym (λ j. record { writer = h.0 j; buffer = h.1 j })
            ∙ (λ j. record {
              writer =
                  record {
                    suite = w.suite;
                    key = w.key;
                    number = w.number;
                    place = w.place + close-long kind w j;
                    count = sym (add-zero w.count) j;
                    total = w.total + close_total kind w j;
                    closed = sym (or-true w.closed) j;
                  };
              buffer = put_at w.place (close-bytes kind w j) e.buffer;
            });
        unclosed = p.unclosed;
        enough = omega (arith, p.enough, close-long kind w);
        allowed = none_from;
        few = omega (arith, p.valid.count);
      }

  pub brings : (c : Call) → Callable kind c → outcome kind c e ≡ Ok tt → Brings kind c e
  brings (add u) (adds g) done = add-brings u g done
  brings close closes done = close-brings done

  pub refused : (c : Call) {why : Refusal} → outcome kind c e ≡ Err why → after_call kind c e ≡ e
  refused (add u) r = let h = add_handed kind w u e.buffer r in sym (λ j. record { writer = h.0 j; buffer = h.1 j })
  refused close r = let h = close_handed kind w e.buffer r in sym (λ j. record { writer = h.0 j; buffer = h.1 j })
