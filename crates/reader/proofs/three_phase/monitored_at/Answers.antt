use Rattle.page.proofs.Common.{add_assoc, arith, w32, to_z_pos, num_at}
use Rattle.reader.proofs.three_phase.monitored_at.Goals as goal

pub returns : goal.returns
returns c =
    let fits = to_z_pos w32 (num_at 4 c.args.s.now c.args.at) (omega (arith, c.requires.1)) in
    rw (c.get_u32-2.ensures, c.get_flag.ensures.value, c.cast_signed.ensures, c.get_u32.ensures, fits, fits) (simp add_assoc)
