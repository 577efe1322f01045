use Rattle.std.proofs.Common.{◌≡◌, ◌-◌, ◌≤◌, length, take, drop, IsTrue, sym, ◌∙◌, ap, subst, arith}
use Rattle.std.proofs.lemmas.List.{take_rest}
use Rattle.flow_disk.specs.Disk.{Held}
use Rattle.flow_gate.proofs.Reading.{found_in, told_in, given_in, refused_in, whole_in, named_in, looked, looked_again}
use Rattle.flow_gate.proofs.walk.scan.Goals as goal

pub returns-clause-whole : goal.returns-clause-whole
returns-clause-whole g c = whole_in c.deref.result.now c.args.from c.walk.result c.walk.ensures.found

pub returns-clause-names : goal.returns-clause-names
returns-clause-names g c = named_in c.deref.result.now c.args.file c.args.from c.walk.result c.walk.ensures.told

pub returns-clause-found : goal.returns-clause-found
returns-clause-found g c h =
    let D = g.D.Disk in
    let d = c.args.disk.now in
    let mid = c.length.new.self in
    let file = c.args.file in
    let from = c.args.from in
    let size = c.in_ok-size.size in
    let reads = (D.held d file).reads in
    let h1 = subst IsTrue (sym c.length.ensures.honest) h in
    let there = (D.held mid file).reads in
    let same : there ≡ reads = ap (λ (f : Held). f.reads) (c.length.ensures.held h file) in
    let all : size ≡ length there = sym c.in_ok-size.ensures.count ∙ g.met.D.Disk.has_size mid file h1 in
    let read : c.deref.result.now ≡ take (size - from) (drop from there) = c.deref.ensures.value
    ∙ c.in_ok-octets.ensures.octets h1 in
    let rest : c.deref.result.now ≡ drop from reads = read ∙ ap (λ n. take (n - from) (drop from there)) all
    ∙ take_rest there from ∙ ap (λ l. drop from l) same in
    let within : from ≤ length reads = omega (arith, all, ap length same, c.if-from-size.false) in
    found_in reads c.deref.result.now file from rest within c.walk.result c.walk.ensures.found

pub returns-clause-damaged : goal.returns-clause-damaged
returns-clause-damaged g c h =
    let D = g.D.Disk in
    let d = c.args.disk.now in
    let mid = c.length.new.self in
    let file = c.args.file in
    let from = c.args.from in
    let size = c.in_ok-size.size in
    let reads = (D.held d file).reads in
    let h1 = subst IsTrue (sym c.length.ensures.honest) h in
    let there = (D.held mid file).reads in
    let same : there ≡ reads = ap (λ (f : Held). f.reads) (c.length.ensures.held h file) in
    let all : size ≡ length there = sym c.in_ok-size.ensures.count ∙ g.met.D.Disk.has_size mid file h1 in
    let read : c.deref.result.now ≡ take (size - from) (drop from there) = c.deref.ensures.value
    ∙ c.in_ok-octets.ensures.octets h1 in
    let rest : c.deref.result.now ≡ drop from reads = read ∙ ap (λ n. take (n - from) (drop from there)) all
    ∙ take_rest there from ∙ ap (λ l. drop from l) same in
    let within : from ≤ length reads = omega (arith, all, ap length same, c.if-from-size.false) in
    told_in reads c.deref.result.now file from rest within c.walk.result c.walk.ensures.told

pub returns-clause-given : goal.returns-clause-given
returns-clause-given g c h list gated =
    let D = g.D.Disk in
    let d = c.args.disk.now in
    let mid = c.length.new.self in
    let file = c.args.file in
    let from = c.args.from in
    let size = c.in_ok-size.size in
    let reads = (D.held d file).reads in
    let h1 = subst IsTrue (sym c.length.ensures.honest) h in
    let there = (D.held mid file).reads in
    let same : there ≡ reads = ap (λ (f : Held). f.reads) (c.length.ensures.held h file) in
    let all : size ≡ length there = sym c.in_ok-size.ensures.count ∙ g.met.D.Disk.has_size mid file h1 in
    let read : c.deref.result.now ≡ take (size - from) (drop from there) = c.deref.ensures.value
    ∙ c.in_ok-octets.ensures.octets h1 in
    let rest : c.deref.result.now ≡ drop from reads = read ∙ ap (λ n. take (n - from) (drop from there)) all
    ∙ take_rest there from ∙ ap (λ l. drop from l) same in
    let within : from ≤ length reads = omega (arith, all, ap length same, c.if-from-size.false) in
    given_in reads file from list gated c.walk.result
    (found_in reads c.deref.result.now file from rest within c.walk.result c.walk.ensures.found)
    (told_in reads c.deref.result.now file from rest within c.walk.result c.walk.ensures.told)

pub returns-clause-refused : goal.returns-clause-refused
returns-clause-refused g c h at damaged =
    let D = g.D.Disk in
    let d = c.args.disk.now in
    let mid = c.length.new.self in
    let file = c.args.file in
    let from = c.args.from in
    let size = c.in_ok-size.size in
    let reads = (D.held d file).reads in
    let h1 = subst IsTrue (sym c.length.ensures.honest) h in
    let there = (D.held mid file).reads in
    let same : there ≡ reads = ap (λ (f : Held). f.reads) (c.length.ensures.held h file) in
    let all : size ≡ length there = sym c.in_ok-size.ensures.count ∙ g.met.D.Disk.has_size mid file h1 in
    let read : c.deref.result.now ≡ take (size - from) (drop from there) = c.deref.ensures.value
    ∙ c.in_ok-octets.ensures.octets h1 in
    let rest : c.deref.result.now ≡ drop from reads = read ∙ ap (λ n. take (n - from) (drop from there)) all
    ∙ take_rest there from ∙ ap (λ l. drop from l) same in
    let within : from ≤ length reads = omega (arith, all, ap length same, c.if-from-size.false) in
    refused_in reads file from at damaged c.walk.result
    (found_in reads c.deref.result.now file from rest within c.walk.result c.walk.ensures.found)
    (told_in reads c.deref.result.now file from rest within c.walk.result c.walk.ensures.told)

pub returns-clause-any_moment : goal.returns-clause-any_moment
returns-clause-any_moment g c h =
    let D = g.D.Disk in
    let d = c.args.disk.now in
    let mid = c.length.new.self in
    let h1 = subst IsTrue (sym c.length.ensures.honest) h in
    looked_again D d mid (λ image left. g.met.D.Disk.only_now d image h left)
    (c.length.ensures.time h) c.read.new.self (c.length.ensures.held h) (c.read.ensures.time h1)

pub returns-in_err-size-clause-any_moment : goal.returns-in_err-size-clause-any_moment
returns-in_err-size-clause-any_moment g c h =
    let D = g.D.Disk in
    let d = c.args.disk.now in
    let mid = c.length.new.self in
    looked D d mid (λ image left. g.met.D.Disk.only_now d image h left) (c.length.ensures.time h)

pub returns-then-from-size-clause-any_moment : goal.returns-then-from-size-clause-any_moment
returns-then-from-size-clause-any_moment g c h =
    let D = g.D.Disk in
    let d = c.args.disk.now in
    let mid = c.length.new.self in
    looked D d mid (λ image left. g.met.D.Disk.only_now d image h left) (c.length.ensures.time h)

pub returns-in_err-octets-clause-any_moment : goal.returns-in_err-octets-clause-any_moment
returns-in_err-octets-clause-any_moment g c h =
    let D = g.D.Disk in
    let d = c.args.disk.now in
    let mid = c.length.new.self in
    let h1 = subst IsTrue (sym c.length.ensures.honest) h in
    looked_again D d mid (λ image left. g.met.D.Disk.only_now d image h left)
    (c.length.ensures.time h) c.read.new.self (c.length.ensures.held h) (c.read.ensures.time h1)
