use Rattle.std.specs.Prelude.{IfErr, OnOk}
use Rattle.tt_setting.specs.Settings.{setting_of}
use Rattle.tt_family.specs.Checks.{IsExhausted, Names}
use Rattle.tt_cert.specs.declared.form.Form.{Form}
use Rattle.hintcheck_certificates.specs.Certificates.{IsGoodListing, IsListingBrokenFirst}
use Rattle.hintcheck_certificates.proofs.CheckRefusals.{of_sparse}
use Rattle.hintcheck_certificates.proofs.section_check.check_section.Goals as goal

pub returns-in-One-clause-first : goal.returns-in-One-clause-first
returns-in-One-clause-first c = rw c.in-One.is c.check_listing.ensures.first

pub returns-in-Two-clause-listing : goal.returns-in-Two-clause-listing
returns-in-Two-clause-listing c =
    let P : Form → Type 0 = λ f. OnOk c.check_listing-in-Two.result (IsGoodListing f (setting_of c.args.setting.now) c.args.setting.now.start.now c.args.certificate.now) in
    of_sparse P c.args.form c.in-Two.is c.check_listing-in-Two.ensures.good c.check_listing-in-Two.ensures.good c.check_listing-in-Two.ensures.good

pub returns-in-Two-clause-first : goal.returns-in-Two-clause-first
returns-in-Two-clause-first c =
    let P : Form → Type 0 = λ f. IfErr c.check_listing-in-Two.result (Names (IsListingBrokenFirst f (setting_of c.args.setting.now) c.args.setting.now.start.now c.args.certificate.now)) in
    of_sparse P c.args.form c.in-Two.is c.check_listing-in-Two.ensures.first c.check_listing-in-Two.ensures.first c.check_listing-in-Two.ensures.first

pub returns-in-Two-clause-exact : goal.returns-in-Two-clause-exact
returns-in-Two-clause-exact c =
    let P : Form → Type 0 = λ f. IsGoodListing f (setting_of c.args.setting.now) c.args.setting.now.start.now c.args.certificate.now → IfErr c.check_listing-in-Two.result IsExhausted in
    of_sparse P c.args.form c.in-Two.is c.check_listing-in-Two.ensures.exact c.check_listing-in-Two.ensures.exact c.check_listing-in-Two.ensures.exact
