-- Demand 3 holds of what C keeps: along a list of calls the 64 bytes hold that list's writer.
use Rattle.suites.specs.Answer.{Answer}
use Rattle.std.specs.Prelude.{Ok, Err}
use mathlib.Core.Path.{◌≡◌, refl, sym, ap, subst, ◌∙◌}
use mathlib.Core.List.{List, [], ◌∷◌, ◌++◌, append_assoc, append-nil}
use Prim.Native.Nat.{ℕ, ◌^◌, ◌<◌}
use native.Mathlib.Omega.{arith}
use lib.ListN.{length, take}
use Rattle.suites.specs.Told.{Told, gives, by_answer}
use Rattle.fields.specs.Each.{Each, none, more}
use Rattle.fields.specs.Kind.{Kind, writer_kind}
use Rattle.bits.specs.Bytes.{Bytes}
use Rattle.checker.specs.Check.{check_answer, check_told}
use Rattle.kinds.specs.Kind.{kind_of, book_kind, newest}
use Rattle.kinds.proofs.Formed.{formed}
use Rattle.writer_calls.specs.Writer.{start_writer, start_buffer}
use Rattle.writer_calls.specs.History.{Call, Callable, State, outcome, after_call, after_calls, Start, started, has_close, sealings, units}
use Rattle.writer_calls.specs.Left.{Leaves}
use Rattle.writer_calls.proofs.Brings.{refused}
use Rattle.writer_calls.proofs.Left.{writer_half}
use Rattle.writer_state.proofs.Passed.{valid_told}
use Rattle.writer_bytes.specs.WriterBytes.{writer_of, writer_bytes}
use Rattle.writer_bytes.proofs.RoundTrip.{writer_of_writer_bytes}
use Rattle.returned.specs.Returned.{returned}
use Rattle.book.specs.Demand3.{History, after, leaves, LeavesBook}
use Rattle.book.proofs.Demand3.{demand3, left_checks, checks_left}
use Rattle.c_writer.specs.Written.{Kept, kept, state_of, bytes_after, CallsForC, StartsForC}
use Rattle.c_book.specs.ForC.{Run, none as none_run, more as more_run, InC, numbers_of, holds, left, LeavesForC, ForC}

-- what any list leaves
left_by : (s : Start) (cs : List Call) → Each (Callable writer_kind) cs
    → Leaves writer_kind s (units writer_kind cs (started s)) (has_close writer_kind cs (started s)) (sealings writer_kind cs (started s))
    (after_calls writer_kind cs (started s))
left_by s cs each = (writer_half writer_kind (formed newest)).leaves s cs each

-- one call more at the end
calls_snoc : (cs : List Call) (c : Call) (s : State) → after_calls writer_kind (cs ++ c ∷ []) s ≡ after_call writer_kind c (after_calls writer_kind cs s)
unfolding after_calls
calls_snoc [] c s = refl
calls_snoc (d ∷ cs) c s = calls_snoc cs c (after_call writer_kind d s)

each_left : (cs ds : List Call) → Each (Callable writer_kind) (cs ++ ds) → Each (Callable writer_kind) cs
each_left [] ds e = none
each_left (c ∷ cs) ds (more k ks) = more k (each_left cs ds ks)

module _ (s : Start) (fits : length s.buffer < 2 ^ 64) where
  -- the bytes of a list's writer hold that writer
  held : (cs : List Call) → Each (Callable writer_kind) cs
      → writer_of (writer_bytes (after_calls writer_kind cs (started s)).writer) ≡ (after_calls writer_kind cs (started s)).writer
  held cs each =
      let e = after_calls writer_kind cs (started s) in
      let l = left_by s cs each in
      let v = valid_told writer_kind e.writer (length e.buffer) l.sound in
      writer_of_writer_bytes e.writer (ap length l.key ∙ l.bookable.key_long) (rw l.number s.number_fits)
      (omega (arith, v.within, l.room)) (omega (arith, v.count)) (omega (arith, v.total, v.count))

  -- where the bytes hold a list's writer, a call leaves bytes that hold the writer of the list with this call
  module _ (cs : List Call) (c : Call) (each : Each (Callable writer_kind) (cs ++ c ∷ [])) {k l : Kept} {r : ℕ}
      (here : state_of k ≡ after_calls writer_kind cs (started s)) (h : CallsForC c k r l) where
    there : after_call writer_kind c (state_of k) ≡ after_calls writer_kind (cs ++ c ∷ []) (started s)
    there = ap (after_call writer_kind c) here ∙ sym (calls_snoc cs c (started s))

    call_same : (a : Answer) → outcome writer_kind c (state_of k) ≡ a → state_of l ≡ after_call writer_kind c (state_of k)
    call_same (Ok tt) q =
        let e = after_call writer_kind c (state_of k) in
        let bytes : l.writer ≡ writer_bytes e.writer = h.writer ∙ ap (λ (x : Answer). by_answer x (writer_bytes e.writer) k.writer) q in
        let back : writer_of (writer_bytes e.writer) ≡ e.writer =
        subst (λ (x : State). writer_of (writer_bytes x.writer) ≡ x.writer) (sym there) (held (cs ++ c ∷ []) each) in
        λ i. record { writer = (ap writer_of bytes ∙ back) i; buffer = h.buffer i }
    call_same (Err why) q =
        let e = after_call writer_kind c (state_of k) in
        let bytes : l.writer ≡ k.writer = h.writer ∙ ap (λ (x : Answer). by_answer x (writer_bytes e.writer) k.writer) q in
        let stays : e ≡ state_of k = refused writer_kind (state_of k) c q in
        λ i. record { writer = (ap writer_of bytes ∙ sym (ap (λ (x : State). x.writer) stays)) i; buffer = h.buffer i }

    next_same : state_of l ≡ after_calls writer_kind (cs ++ c ∷ []) (started s)
    next_same = call_same (outcome writer_kind c (state_of k)) refl ∙ there

  -- so along a list, and each call returns that list's number
  run-same : (cs ds : List Call) → Each (Callable writer_kind) (cs ++ ds) → {k m : Kept} {rs : List ℕ} → state_of k ≡ after_calls writer_kind cs (started s)
      → Run ds k rs m
      → (state_of m ≡ after_calls writer_kind (cs ++ ds) (started s)) × (rs ≡ numbers_of writer_kind ds (after_calls writer_kind cs (started s)))
  unfolding numbers_of
  run-same cs [] each here none_run = (here ∙ ap (λ (x : List Call). after_calls writer_kind x (started s)) (sym (append-nil cs)), refl)
  run-same cs (d ∷ ds) each here (more_run {rs = rs} h run) =
      let all = subst (Each (Callable writer_kind)) (sym (append_assoc cs (d ∷ []) ds)) each in
      let rest = run-same (cs ++ d ∷ []) ds all (next_same cs d (each_left (cs ++ d ∷ []) ds all) here h) run in (
        rest.0 ∙ ap (λ (x : List Call). after_calls writer_kind x (started s)) (append_assoc cs (d ∷ []) ds),
        λ i. (h.returns ∙ ap (λ (x : State). returned (outcome writer_kind d x)) here) i
            ∷ (rest.1 ∙ ap (numbers_of writer_kind ds) (calls_snoc cs d (started s))) i,
      )

  begun-same : {k : Kept} → StartsForC s.suite s.key s.number s.buffer 0 k → state_of k ≡ started s
  unfolding after_calls
  begun-same h = λ i. record { writer = (ap writer_of h.writer ∙ held [] none) i; buffer = h.buffer i }

list_same : (h : History writer_kind) (l : InC h)
    → (state_of l.end ≡ after h) × (l.numbers ≡ numbers_of writer_kind h.calls (started h.start))
unfolding after_calls
list_same h l = run-same h.start l.fits [] h.calls h.callable (begun-same h.start l.fits l.starts) l.run

left_same : (h : History writer_kind) (l : InC h) → left l ≡ leaves h
left_same h l = ap (λ (e : State). take e.writer.place e.buffer) (list_same h l).0

-- the calls made one after the other
make : (cs : List Call) (k : Kept) → (rs : List ℕ) × (m : Kept) × Run cs k rs m
make [] k = ([], k, none_run)
make (c ∷ cs) k =
    let (rs, m, run) = make cs (kept (bytes_after c k) (after_call writer_kind c (state_of k)).buffer) in
    (returned (outcome writer_kind c (state_of k)) ∷ rs, m, more_run (record { returns = refl; writer = refl; buffer = refl }) run)

made : (h : History writer_kind) → length h.start.buffer < 2 ^ 64 → InC h
made h fits =
    let s = h.start in
    let begun = kept (writer_bytes (start_writer s.suite s.key s.number s.buffer)) (start_buffer s.suite s.key s.number s.buffer) in
    let (rs, m, run) = make h.calls begun in
    record {
      fits = fits;
      begun = begun;
      starts = record { returns = sym s.accepted; writer = refl; buffer = refl };
      numbers = rs;
      end = m;
      run = run;
    }

-- check accepts what such a list leaves
left_accepted : (h : History writer_kind) (l : InC h) {key x : List ℕ} → LeavesForC l key x
    → check_told (check_answer key x) ≡ gives ((holds l).count ∷ (holds l).total ∷ [])
left_accepted h l leaves =
    left_checks newest h (record { under = leaves.under; closed = leaves.closed; string = sym (left_same h l) ∙ leaves.string })
    ∙ ap (λ (e : State). gives (e.writer.count ∷ e.writer.total ∷ [])) (sym (list_same h l).0)

-- and what it accepts, of the writer's kind, is left by one
accepted_left : (key x : List ℕ) → Bytes key → Bytes x → length x < 2 ^ 64 → kind_of (book_kind x) ≡ writer_kind → (n t : ℕ)
    → check_told (check_answer key x) ≡ gives (n ∷ t ∷ [])
    → (h : History writer_kind) × (l : InC h) × LeavesForC l key x × ((holds l).count ≡ n) × ((holds l).total ≡ t)
accepted_left key x key_bytes bytes long own n t e =
    let (h, leaves, count, total, buffer) =
    subst
    (λ (kind : Kind). (h : History kind) × LeavesBook h key x × ((after h).writer.count ≡ n) × ((after h).writer.total ≡ t) × (h.start.buffer ≡ x))
    own (checks_left key x key_bytes bytes n t e) in
    let l = made h (rw buffer long) in
    let same = (list_same h l).0 in (
      h,
      l,
      record { under = leaves.under; closed = leaves.closed; string = left_same h l ∙ leaves.string },
      ap (λ (s : State). s.writer.count) same ∙ count,
      ap (λ (s : State). s.writer.total) same ∙ total,
    )

pub for_c : ForC
for_c =
    record {
      starts = λ {suite} {key} {number} {buf} h.
          h.returns ∙ ap (λ (t : Told). t.number) ((demand3.written newest).starts suite (length key) (length buf));
      every = made;
      same = λ h l. (list_same h l).0;
      returns = λ h l. (list_same h l).1;
      apart = λ h l. demand3.apart newest h;
      total = λ h l.
          let same = ap (λ (e : State). e.writer.total) (list_same h l).0 in
          (same ∙ (demand3.total newest h).0, same ∙ (demand3.total newest h).1);
      exact = λ key x key_bytes bytes long own n t. (
        accepted_left key x key_bytes bytes long own n t,
        λ (h, l, leaves, count, total). left_accepted h l leaves ∙ (λ i. gives (count i ∷ total i ∷ [])),
      );
      one = λ h₁ h₂ l₁ l₂ key e. demand3.one newest h₁ h₂ key (sym (left_same h₁ l₁) ∙ e ∙ left_same h₂ l₂);
    }
