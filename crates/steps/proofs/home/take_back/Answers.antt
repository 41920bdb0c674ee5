use Rattle.std.proofs.Common.{◌≡◌, subst, rules}
use Rattle.notes.specs.Notes.{Notes}
use Rattle.notes.specs.View.{notes_of}
use Rattle.steps.specs.Serving.{returned}
use Rattle.steps.specs.Soundness.{Sound}
use Rattle.steps.proofs.Kept.{left_sound}
use Rattle.steps.proofs.home.take_back.Goals as goal

pub serve_queue-requires : goal.serve_queue-requires
serve_queue-requires g c =
    let e : returned c.args.station (notes_of c.args.row.now) ≡ notes_of c.if-is_empty.row = search rules in
    record {
      sound = subst (λ (x : Notes). Sound c.args.site.home x) e
          (left_sound _ _ _ c.args.site.home_in c.requires.station c.requires.sound c.requires.holder);
      free = c.requires.free;
    }
