use Rattle.std.proofs.Common.{List, sym, subst}
use Rattle.notes.specs.declared.queue.Entry.{Entry}
use Rattle.notes.specs.Notes.{notes, home_notes}
use Rattle.notes.specs.View.{notes_of}
use Rattle.steps.specs.Soundness.{Sound}
use Rattle.steps.proofs.Crowds.{place_left}
use Rattle.steps.proofs.Kept.{joins_sound}
use Rattle.steps.proofs.home.enqueue.Goals as goal

pub push-requires : goal.push-requires
push-requires g c = place_left _ c.args.station c.requires.sound.apart c.requires.station c.requires.new

pub serve_queue-requires : goal.serve_queue-requires
serve_queue-requires g c =
    let r = notes_of c.args.row.now in
    record {
      sound = subst (λ (q : List Entry). Sound c.args.site.home (notes r.copy r.changed r.recall r.standing (home_notes r.home.mode r.home.holders r.home.awaited q)))
          (sym c.push.ensures) (joins_sound _ _ c.args.access r c.requires.sound c.requires.station c.requires.new c.requires.own);
      free = c.requires.free;
    }
