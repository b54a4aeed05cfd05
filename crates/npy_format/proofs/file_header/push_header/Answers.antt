use Rattle.std.proofs.Common.{◌≡◌, ◌+◌, ◌-◌, ◌∙◌, ◌++◌, ap, length, replicate, refl, arith}
use Rattle.npy_format.proofs.FileLaws.{header_pushed}
use Rattle.npy_format.proofs.file_header.push_header.Goals as goal

pub returns : goal.returns
returns c =
    let spaces : c.len.result + c.spaces_after-spaces.result - length c.extend_from_slice-2.new.self.items ≡ c.spaces_after-spaces.result = omega (arith, c.len.ensures) in
    let padded = c.in_ok-pad.ensures ∙ ap (λ n. c.extend_from_slice-2.new.self.items ++ replicate n 32) spaces in
    header_pushed c.args.out.now.items _ _ _ _ _ _ _ c.args.text.now c.args.version c.args.width c.spaces_after-spaces.result _ c.spaces_after-spaces.ensures.value refl
    c.in_ok-extend_from_slice.ensures.items c.in_ok-push.ensures.items c.in_ok-push-2.ensures.items c.in_ok-push_length.ensures c.in_ok-extend_from_slice-2.ensures.items padded c.in_ok-push-3.ensures.items
