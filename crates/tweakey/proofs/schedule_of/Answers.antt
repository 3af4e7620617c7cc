-- The states are the tweakeys, three or two.
use mathlib.Core.Path.{ap, ◌∙◌}
use Rattle.state.specs.Rows.{add_rows}
use Rattle.state.specs.State.{rows_of}
use Rattle.rounds.specs.Tweakey.{φ, scream_tweakey, iscream_tweakey}
use Rattle.tweakey.proofs.schedule_of.Goals as goal

pub returns-in-Scream : goal.returns-in-Scream
unfolding scream_tweakey
returns-in-Scream c =
    let key = rows_of c.args.key in
    rw c.in-Scream.is
    (record {
      first = c.add-first.ensures;
      second = c.add.ensures ∙ ap (add_rows key) c.phi-t.ensures;
      third = c.add-in-Scream.ensures ∙ ap (add_rows key) (c.phi.ensures ∙ ap φ c.phi-t.ensures);
    })

pub returns-in-IScream : goal.returns-in-IScream
unfolding iscream_tweakey
returns-in-IScream c =
    rw c.in-IScream.is (record { first = c.add-first.ensures; second = c.rotate_state.ensures; third = c.add-first.ensures })
