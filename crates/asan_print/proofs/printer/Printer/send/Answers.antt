use Rattle.std.proofs.Common.{◌<◌, take, drop, length, sym, ◌∙◌, arith, string_bytes}
use Rattle.std.proofs.lemmas.List.{append-nil, take-append-drop, length-drop, length-take-le}
use Rattle.asan_print.proofs.printer.Printer.send.Goals as goal

pub returns-in-Err-clause-fault : goal.returns-in-Err-clause-fault
returns-in-Err-clause-fault g c =
    let text = string_bytes c.args.self.now.text in
    let k = c.in-Err.fault.written in
    let some : k < length text = rw c.as_bytes.ensures.value at c.in-Err.ensures.short in
    record {
      out = take k text;
      rest = drop k text;
      sent = rw c.as_bytes.ensures.value at c.in-Err.ensures.fault;
      parts = append-nil text ∙ sym (take-append-drop k text);
      short = omega (arith, length-drop k text);
      count = let le = length-take-le k text (omega arith) in omega arith;
    }
