use Rattle.std.proofs.Common.{◌≡◌, ◌++◌, codes, rules}
use Rattle.npy_format.proofs.Words.{shape_text, written_descr, written_truth}
use Rattle.npy_format.proofs.WrittenEntries.{seven_written}
use Rattle.npy_format.proofs.header_text.header_text.Goals as goal

pub returns : goal.returns
returns c =
    let shaped : c.extend_from_slice-4.new.self.items ≡ c.extend_from_slice-3.new.self.items ++ shape_text c.args.shape.now = search rules in
    seven_written (codes "{'descr': ") (written_descr c.args.descr.now) (codes ", 'fortran_order': ") (written_truth c.args.fortran) (codes ", 'shape': ") (shape_text c.args.shape.now) (codes ", }") _ _ _ _ _ _ _ _
    c.new-text.ensures.items c.in_ok-extend_from_slice.ensures.items c.in_ok-push_descr.ensures c.in_ok-extend_from_slice-2.ensures.items c.in_ok-push_truth.ensures c.in_ok-extend_from_slice-3.ensures.items shaped c.in_ok-extend_from_slice-5.ensures.items
